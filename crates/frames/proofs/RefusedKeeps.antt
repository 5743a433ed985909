-- Demand 1: refused frames have their number and zeros. By the number. Assumes nothing.
use Prim.Native.Nat.{ℕ}
use mathlib.Core.Path.{◌≡◌, refl, sym, ap, ◌∙◌}
use mathlib.Core.List.{List}
use lib.IntN.{ℤ}
use Rattle.whole.specs.Choice.{or_else}
use Rattle.whole.specs.Refused.{RefusedBare}
use Rattle.whole.proofs.Choice.{kept_old}
use Rattle.std.specs.Prelude.{Result, Ok, Err}
use Rattle.units.specs.declared.refusal.Refusal.{Refusal}
use Rattle.loss.specs.declared.LossFee.{LossFee}
use Rattle.words.specs.declared.Framing.{Framing}
use Rattle.words.specs.declared.Framing.TheVariants.{DregFrame, EdregFrame, SregFrame, Frame, LossFrames}
use Rattle.hours.specs.Hours.{HourNumbers}
use Rattle.frames.specs.Frames.{entry_refusal, no_entry, single, framed_by, frame_asked, hour_post, loss_asked, fee_frames, loss_frames, frame_answer}
use Rattle.frames.specs.declared.Framed.{Framed}
use Rattle.frames.proofs.answer.Reads as answer
use Rattle.frames.proofs.answer.Kinds as answer_kinds

abbrev bare : ℕ → Framed
bare k = single k no_entry

framed_bare : (before : ℕ) (kind day hour amount : ℤ) → ((framed_by before kind day hour amount).refusal ≡ 0 → ⊥)
    → framed_by before kind day hour amount ≡ bare (framed_by before kind day hour amount).refusal
unfolding framed_by
framed_bare before kind day hour amount f =
    ap (single (or_else before (entry_refusal kind day hour))) (kept_old _ _ f)

fees_bare : (a : Result LossFee Refusal) → ((fee_frames a).refusal ≡ 0 → ⊥) → fee_frames a ≡ bare (fee_frames a).refusal
fees_bare (Ok l) f = absurd (f refl)
fees_bare (Err r) f = refl

answer_bare : (asks : Framing) (n : List ℤ) (given : HourNumbers) → (let x = frame_answer asks n given in (x.refusal ≡ 0 → ⊥) → x ≡ bare x.refusal)
unfolding frame_asked hour_post loss_frames
answer_bare DregFrame n given f = framed_bare _ _ _ _ _ f
answer_bare EdregFrame n given f = framed_bare _ _ _ _ _ f
answer_bare SregFrame n given f = framed_bare _ _ _ _ _ f
answer_bare Frame n given f = framed_bare _ _ _ _ _ f
answer_bare LossFrames n given f = fees_bare (loss_asked n) f

answer_refused_keeps : RefusedBare 3 answer_kinds.ps answer_kinds.r (λ κs x. x.refusal) (λ κs a k. bare k) answer.Post
answer_refused_keeps κs a x s p f =
    let k = ap (λ (y : Framed). y.refusal) p in
    p ∙ answer_bare a.0 a.1.0 _ (λ z. f (k ∙ z)) ∙ sym (ap bare k)
