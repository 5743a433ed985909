-- The round trips over the contracts as the toolchain reads them: any answer that meets `write_pair`'s and refuses nothing leaves a line that any answer that meets `read_pair`'s reads as the
-- same second and bits; and a line so read is what any answer to `write_pair` leaves for them. The contracts are equations, so that both follow from the definitions' round trips.
-- And a line that reads as a pair is refused with 13 by any answer that meets `read_frame`'s. Assumes nothing.
use Prim.Native.Nat.{ℕ}
use mathlib.Core.Path.{◌≡◌, refl, sym, ap, ◌∙◌}
use mathlib.Core.List.{List, [], ◌∷◌}
use lib.Dec.{eqb}
use lib.ListN.{length, get_or}
use contract.Lifetimes.{Lfts}
use denote.Triple.Clauses.{AtExit}
use borrow.Fn.Kinds.{Dens, GoodsP, ended_of}
use borrow.Author.Tests.{eqb-true}
use Rattle.whole.proofs.Choice.{all_passed, both_passed}
use Rattle.units.specs.Refusals.{bad_kind, refused_as}
use Rattle.units.specs.declared.refusal.Refusal.{Refusal}
use Rattle.units.proofs.Numbered.{let_through}
use Rattle.frame.specs.Digits.{bytes_of}
use Rattle.frame.specs.Frame.{line_digits, line_refusal, in_form, entry_of, reading_of}
use Rattle.std.specs.Prelude.{Result, Ok}
use Rattle.frame.specs.declared.Entry.{Entry}
use Rattle.frame.proofs.Frames.{reading_form, close_right, closes}
use Rattle.frame.proofs.read_frame.Reads as read_frame
use Rattle.frame.proofs.read_frame.Kinds as read_frame_kinds
use Rattle.pair_frame.specs.PairFrame.{pair_kind, sent_refusal, sent_of}
use Rattle.pair_frame.proofs.PairFrames.{sent_number, sent_none}
use Rattle.pair_frame.specs.declared.Sent.{Sent}
use Rattle.pair_frame.proofs.RoundTrip.{sent, read_filled, filled_read}
use Rattle.pair_frame.proofs.read_pair.Reads as read_pair
use Rattle.pair_frame.proofs.read_pair.Kinds as read_pair_kinds
use Rattle.pair_frame.proofs.write_pair.Reads as write_pair
use Rattle.pair_frame.proofs.write_pair.Kinds as write_pair_kinds

-- a call of the writer: what is handed in, the answer, and what is left; and a call of the reader
module _ (κs : Lfts 1) (a : Dens κs write_pair_kinds.ps) (r : Result (Unit {0}) Refusal) (s : AtExit (ended_of 1 write_pair_kinds.ps write_pair_kinds.r) κs)
    (ηs : Lfts 1) (b : Dens ηs read_pair_kinds.ps) (x : Result Sent Refusal) (t : AtExit (ended_of 1 read_pair_kinds.ps read_pair_kinds.r) ηs)
  where
    pub written_reads :
        GoodsP κs write_pair_kinds.ps a → write_pair.Post κs a r s → r ≡ Ok tt →
        read_pair.Post ηs b x t → b.0.now ≡ s.1.1.1.0.now → x ≡ Ok (sent a.0 a.1.0 a.1.1.0)
    written_reads g p z q e =
        q ∙ ap sent_of (e ∙ p.1) ∙ read_filled a.0 a.1.0 a.1.1.0 a.1.1.1.0.now (closes (length a.1.1.1.0.now) (let_through _ tt (sym p.0 ∙ z))) g.0.1 g.1.0.1 g.1.1.0.1

    pub read_writes :
        read_pair.Post ηs b x t → x ≡ Ok (sent a.0 a.1.0 a.1.1.0) →
        write_pair.Post κs a r s → length a.1.1.1.0.now ≡ line_digits → (r ≡ Ok tt) × (s.1.1.1.0.now ≡ b.0.now)
    read_writes q f p l =
        (p.0 ∙ sym (close_right a.1.1.1.0.now a.1.1.1.0.now l).0, p.1 ∙ filled_read b.0.now a.0 a.1.0 a.1.1.0 (sym q ∙ f) a.1.1.1.0.now l)

-- ---- "The `ledger` program still answers 13 to this kind": a line that is read as a pair is one that the ledger's reader refuses with 13

unread : (line : List ℕ) → sent_refusal line ≡ 0 → reading_of line ≡ refused_as bad_kind
unfolding in_form entry_of
unread line z =
    let b = both_passed (line_refusal line) _ (sym (sent_number line) ∙ z) in
    let k = eqb-true (get_or (bytes_of line) 0 0) pair_kind (all_passed ((eqb (get_or (bytes_of line) 0 0) pair_kind, bad_kind) ∷ []) refl b.1).0 in
    sym (reading_form line b.0 (rw k))

pub ledger_refuses : (ηs : Lfts 1) (b : Dens ηs read_pair_kinds.ps) (x : Result Sent Refusal) (y : Sent) (t : AtExit (ended_of 1 read_pair_kinds.ps read_pair_kinds.r) ηs)
    (κs : Lfts 1) (a : Dens κs read_frame_kinds.ps) (r : Result Entry Refusal) (s : AtExit (ended_of 1 read_frame_kinds.ps read_frame_kinds.r) κs)
    → read_pair.Post ηs b x t → x ≡ Ok y → read_frame.Post κs a r s → a.0.now ≡ b.0.now → r ≡ refused_as bad_kind
ledger_refuses ηs b x y t κs a r s p z q e =
    q ∙ ap reading_of e ∙ unread b.0.now (sent_none b.0.now y (sym p ∙ z))
