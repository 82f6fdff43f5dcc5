use Rattle.std.proofs.Common.{◌≡◌, None, subst, refl, ap}
use Rattle.stage_looks.specs.Sending.{HasNone}
use Rattle.stage_looks.specs.declared.outlets.Outlet.{Outlet}
use Rattle.stage_looks.proofs.Outgoing.{sent_elsewhere, same_all, post_apart, post_same, post_sent, post_nothing}
use Rattle.stage_looks.proofs.outlets.post.Goals as goal

pub returns-in-None-clause-sent : goal.returns-in-None-clause-sent
returns-in-None-clause-sent c = λ put hand s.
    sent_elsewhere put hand c.args.parcel None c.args.outlets.now.items tt (subst (HasNone c.args.parcel.to) c.deref.ensures.value c.in-None.ensures) s

pub returns-in-None-clause-same : goal.returns-in-None-clause-same
returns-in-None-clause-same c = same_all c.args.outlets.now.items

pub returns-in-Some-clause-apart : goal.returns-in-Some-clause-apart
returns-in-Some-clause-apart c =
    let new : Outlet = record { to = c.index_mut.result.now.to; link = c.push_one.new.link } in
    post_apart c.args.parcel c.args.outlets.now.items c.deref.result.now c.in-Some.place c.index_mut.result.now new c.deref.ensures.value
    c.in-Some.ensures c.index_mut.ensures.value refl c.requires.apart

pub returns-in-Some-clause-sent : goal.returns-in-Some-clause-sent
returns-in-Some-clause-sent c =
    let new : Outlet = record { to = c.index_mut.result.now.to; link = c.push_one.new.link } in
    post_sent c.args.parcel c.args.outlets.now.items c.deref.result.now c.in-Some.place c.index_mut.result.now new c.deref.ensures.value
    c.in-Some.ensures c.index_mut.ensures.value c.push_one.result.0 refl c.push_one.ensures.letters c.push_one.ensures.to c.requires.apart

pub returns-in-Some-clause-same : goal.returns-in-Some-clause-same
returns-in-Some-clause-same c =
    let new : Outlet = record { to = c.index_mut.result.now.to; link = c.push_one.new.link } in
    post_same c.args.parcel c.args.outlets.now.items c.deref.result.now c.in-Some.place c.index_mut.result.now new c.deref.ensures.value
    c.in-Some.ensures c.index_mut.ensures.value refl c.push_one.ensures.same

pub returns-in-Some-clause-refused : goal.returns-in-Some-clause-refused
returns-in-Some-clause-refused c = λ e.
    let d = c.index_mut.result.now in
    let new : Outlet = record { to = d.to; link = c.push_one.new.link } in
    let same : new ≡ d = ap (λ l. record { to = d.to; link = l }) (c.push_one.ensures.refused e).1 in (
      (c.push_one.ensures.refused e).0,
      post_nothing c.args.parcel c.args.outlets.now.items c.deref.result.now c.in-Some.place d new c.deref.ensures.value c.in-Some.ensures
          c.index_mut.ensures.value same,
    )
