use Rattle.std.proofs.Common.{ap}
use Rattle.parcel_post.specs.Posting.{Draft}
use Rattle.parcel_post.proofs.posting.Prepared.send.Goals as goal

pub returns-clause-counts : goal.returns-clause-counts
returns-clause-counts c = ap (λ (draft : Draft). draft.counts) c.self.view_is
