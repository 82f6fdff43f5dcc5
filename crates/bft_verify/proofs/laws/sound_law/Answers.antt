use Rattle.bft_verify.proofs.Soundness.{shaped_from_sound, signed_from_sound, sound_from_both}
use Rattle.bft_verify.proofs.laws.sound_law.Goals as goal

pub returns : goal.returns
returns c = record { shaped = shaped_from_sound; signed = signed_from_sound; only = sound_from_both }
