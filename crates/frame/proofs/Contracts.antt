-- The round trips over the contracts as the toolchain reads them: any answer that meets `write_frame`'s and refuses nothing leaves a line that any
-- answer that meets `read_frame`'s reads as that entry; and a line so read is what any answer to `write_frame` leaves for its entry. The
-- contracts are equations, so that both follow from the definitions' round trips. Assumes nothing.
use mathlib.Core.Path.{◌≡◌, sym, ap, ◌∙◌}
use lib.ListN.{length}
use contract.Lifetimes.{Lfts}
use denote.Struct.Laws.{owed}
use denote.Triple.Clauses.{AtExit}
use borrow.Fn.Kinds.{Dens, GoodsP, ended_of}
use Rattle.units.specs.contracts.Dollars as dollars
use Rattle.units.proofs.Dollars.TheLaws as dollars_laws
use Rattle.frame.specs.Frame.{line_digits, reading_of}
use Rattle.std.specs.Prelude.{Result, Ok}
use Rattle.units.specs.declared.refusal.Refusal.{Refusal}
use Rattle.units.proofs.Numbered.{let_through, answered_ok}
use Rattle.frame.specs.declared.Entry.{Entry}
use Rattle.frame.specs.contracts.Entry as entry
use Rattle.frame.proofs.Entry.TheLaws as entry_laws
use Rattle.frame.proofs.RoundTrip.{Held, read_filled, filled_read}
use Rattle.frame.proofs.read_frame.Reads as read_frame
use Rattle.frame.proofs.read_frame.Kinds as read_frame_kinds
use Rattle.frame.proofs.write_frame.Reads as write_frame
use Rattle.frame.proofs.write_frame.Kinds as write_frame_kinds

-- a call of the writer: what is handed in, the answer, and what is left
module _ (κs : Lfts 1) (a : Dens κs write_frame_kinds.ps) (r : Result (Unit {0}) Refusal) (s : AtExit (ended_of 1 write_frame_kinds.ps write_frame_kinds.r) κs) where
  -- an entry that is handed in lies in its types
  handed : GoodsP κs write_frame_kinds.ps a → Held a.0
  handed g =
      let f = owed entry.the_type entry_laws.the_laws a.0 _ g.0 in
      let d = owed dollars.the_type dollars_laws.the_laws a.0.amount _ f.1.1.1.0 in
      record { kind = f.0.1; day = f.1.0.1; hour = f.1.1.0.1; amount = record { sfits = d.0.1 } }

  -- and a call of the reader
  module _ (ηs : Lfts 1) (b : Dens ηs read_frame_kinds.ps) (x : Result Entry Refusal) (t : AtExit (ended_of 1 read_frame_kinds.ps read_frame_kinds.r) ηs) where
    pub written_reads :
        GoodsP κs write_frame_kinds.ps a → write_frame.Post κs a r s → r ≡ Ok tt →
        read_frame.Post ηs b x t → b.0.now ≡ s.1.0.now → x ≡ Ok a.0
    written_reads g p z q e =
        q ∙ ap reading_of (e ∙ p.1) ∙ read_filled a.0 a.1.0.now (handed g) (let_through _ tt (sym p.0 ∙ z))

    pub read_writes :
        read_frame.Post ηs b x t → x ≡ Ok a.0 →
        write_frame.Post κs a r s → length a.1.0.now ≡ line_digits → (r ≡ Ok tt) × (s.1.0.now ≡ b.0.now)
    read_writes q f p l =
        let w = filled_read b.0.now a.0 (sym q ∙ f) a.1.0.now l in
        (p.0 ∙ answered_ok tt w.0, p.1 ∙ w.1)
