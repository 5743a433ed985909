-- The transcript over the contracts as the toolchain reads them: any run of answers that meet `feed`'s, one for each chunk and each accepted, and of
-- one that meets `finish`'s, from the first state and a month's empty places, has printed the transcript of the whole input. The contracts are
-- equations, so that this follows from the definitions. Assumes nothing.
use Prim.Native.Nat.{ℕ, ◌+◌, ◌*◌, ◌/◌, ◌≤◌}
use mathlib.Core.Path.{◌≡◌, refl, sym, ap, ap₂, ◌∙◌, subst, subst⁻¹}
use mathlib.Core.Bool.{Bool, true, false}
use mathlib.Core.List.{List, [], ◌∷◌, ◌++◌}
use lib.IntN.{ℤ, pos}
use native.Mathlib.Omega.{arith}
use lib.Dec.{leb}
use lib.ListN.{length, take, replicate, length-replicate}
use lib.Seq.{take-append_seam}
use contract.Lifetimes.{Lfts}
use denote.Ref.{Bor, MutBor}
use denote.Triple.Clauses.{AtExit}
use borrow.Fn.Kinds.{Dens, ended_of}
use borrow.Author.Tests.{le-leb}
use Rattle.whole.proofs.Choice.{kept_new}
use Rattle.whole.proofs.Refused.{number_is}
use Rattle.units.specs.Limits.{month_places}
use Rattle.text.specs.Text.{put}
use Rattle.book.specs.Book.{Book}
use Rattle.book.specs.Inner.{book_of}
use Rattle.book.proofs.Calls.{book_all}
use Rattle.intake.specs.Answers.{ledger_transcript}
use Rattle.board.specs.Calls.{lent_marks, lent_amounts}
use Rattle.intake.specs.Calls.{lent_chunk, lent_out}
use Rattle.intake.specs.Inner.{lines_in, first_progress, book_refusal, feed_refusal, end_refusal, chunk_text, chunk_book, chunk_state, last_text, fed_number, end_number, fed_of, fed_marks, fed_amounts, fed_out, finished_of, end_marks, end_amounts, end_out}
use Rattle.intake.specs.declared.Progress.{Progress}
use Rattle.intake.specs.declared.Fed.{Fed}
use Rattle.intake.specs.declared.Finished.{Finished}
use Rattle.intake.proofs.Kept.{all_kept}
use Rattle.intake.proofs.feed.Reads as feed_reads
use Rattle.intake.proofs.feed.Kinds as feed_kinds
use Rattle.intake.proofs.finish.Reads as finish_reads
use Rattle.intake.proofs.finish.Kinds as finish_kinds
use Rattle.account.specs.Account.{printed_of}
use Rattle.account.specs.Prints.{Feeds, Finishes, input_of, Prints, finished, fed, Reaches, started, fed_on}
use Rattle.account.proofs.Demand.{transcript_told}
use Rattle.account.proofs.Transcript.{output_from, output_transcript}

-- ---- what an accepted call leaves

written_front : (out text : List ℕ) → take (length text) (put out 0 text) ≡ text
unfolding put
written_front out text = take-append_seam text _

module _ (state : Progress) (chunk : List ℕ) (marks : List Bool) (amounts : List ℤ) (out : List ℕ) (z : (fed_of state chunk marks amounts out).refusal ≡ 0) where
  fed_none : fed_number state chunk marks amounts out ≡ 0
  unfolding fed_of
  fed_none =
      sym (number_is (λ (r : Fed). r.refusal) (λ k. record { refusal = k; state = state; written = 0 }) (fed_number state chunk marks amounts out) _ refl refl refl) ∙ z

  state_left : (fed_of state chunk marks amounts out).state ≡ chunk_state state chunk marks amounts
  unfolding fed_of
  state_left = ap (λ (r : Fed). r.state) (kept_new _ _ fed_none)

  marks_left : fed_marks state chunk marks amounts out ≡ (chunk_book state chunk marks amounts).board.marks
  unfolding fed_marks
  marks_left = kept_new _ marks fed_none

  amounts_left : fed_amounts state chunk marks amounts out ≡ (chunk_book state chunk marks amounts).board.amounts
  unfolding fed_amounts
  amounts_left = kept_new _ amounts fed_none

  text_left : take (fed_of state chunk marks amounts out).written (fed_out state chunk marks amounts out) ≡ chunk_text state chunk marks amounts
  unfolding fed_of fed_out
  text_left =
      ap₂ (λ (r : Fed) (o : List ℕ). take r.written o) (kept_new _ _ fed_none) (kept_new _ out fed_none) ∙ written_front out (chunk_text state chunk marks amounts)

module _ (state : Progress) (marks : List Bool) (amounts : List ℤ) (out : List ℕ) (z : (finished_of state marks amounts out).refusal ≡ 0) where
  end_none : end_number state marks amounts out ≡ 0
  unfolding finished_of
  end_none = sym (number_is (λ (r : Finished). r.refusal) (λ k. record { refusal = k; written = 0 }) (end_number state marks amounts out) _ refl refl refl) ∙ z

  end_left : take (finished_of state marks amounts out).written (end_out state marks amounts out) ≡ last_text state marks amounts
  unfolding finished_of end_out
  end_left =
      ap₂ (λ (r : Finished) (o : List ℕ). take r.written o) (kept_new _ _ end_none) (kept_new _ out end_none) ∙ written_front out (last_text state marks amounts)

-- ---- so each call is what the definitions say

record Fedly (state : Progress) (chunk : List ℕ) (marks : List Bool) (amounts : List ℤ) (next : Progress) (marksAfter : List Bool) (amountsAfter : List ℤ) (text : List ℕ) : Type 0 where
  pub next_is : next ≡ chunk_state state chunk marks amounts
  pub marks_is : marksAfter ≡ (chunk_book state chunk marks amounts).board.marks
  pub amounts_is : amountsAfter ≡ (chunk_book state chunk marks amounts).board.amounts
  pub text_is : text ≡ chunk_text state chunk marks amounts

fedly : {state next : Progress} {chunk : List ℕ} {marks marksAfter : List Bool} {amounts amountsAfter : List ℤ} {text : List ℕ}
    → Feeds state chunk marks amounts next marksAfter amountsAfter text → Fedly state chunk marks amounts next marksAfter amountsAfter text
fedly f =
    let h = f.handed in
    let st = h.0 in
    let ch = lent_chunk h in
    let fs = lent_marks h.1 in
    let xs = lent_amounts h.1 in
    let out = lent_out h.1 in
    let p = f.post in
    let z : (fed_of st ch fs xs out).refusal ≡ 0 = sym (ap (λ (r : Fed). r.refusal) p.0) ∙ f.accepted in
    let given : Fedly st ch fs xs f.answer.state (lent_marks f.left.1) (lent_amounts f.left.1) (take f.answer.written (lent_out f.left.1)) =
    record {
      next_is = ap (λ (r : Fed). r.state) p.0 ∙ state_left st ch fs xs out z;
      marks_is = p.1.0 ∙ marks_left st ch fs xs out z;
      amounts_is = p.1.1.0 ∙ amounts_left st ch fs xs out z;
      text_is = ap₂ (λ (r : Fed) (o : List ℕ). take r.written o) p.0 p.1.1.1.0 ∙ text_left st ch fs xs out z;
    } in
    rw (f.is_state_lem, f.is_chunk, f.is_marks, f.is_amounts, f.is_next, f.is_marks_after, f.is_amounts_after, f.is_text) at given

endly : {state : Progress} {marks : List Bool} {amounts : List ℤ} {text : List ℕ} → Finishes state marks amounts text → text ≡ last_text state marks amounts
endly f =
    let h = f.handed in
    let st = h.0 in
    let fs = lent_marks h in
    let xs = lent_amounts h in
    let out = lent_out h in
    let p = f.post in
    let z : (finished_of st fs xs out).refusal ≡ 0 = sym (ap (λ (r : Finished). r.refusal) p.0) ∙ f.accepted in
    let given : take f.answer.written (lent_out f.left) ≡ last_text st fs xs =
    ap₂ (λ (r : Finished) (o : List ℕ). take r.written o) p.0 p.1.1.1.0 ∙ end_left st fs xs out z in
    rw (f.is_state_lem, f.is_marks, f.is_amounts, f.is_text) at given

printed_is : {state : Progress} {marks : List Bool} {amounts : List ℤ} {cs : List (List ℕ)} {text : List ℕ}
    → Prints state marks amounts cs text → text ≡ output_from state marks amounts cs
printed_is (finished f) = endly f
printed_is (fed {cs = cs} {rest = rest} f more) =
    let d = fedly f in
    ap₂ ◌++◌ d.text_is
    (printed_is more ∙ ap₂ (λ (s : Progress) (m : List Bool × List ℤ). output_from s m.0 m.1 cs) d.next_is (ap₂ (λ (b : List Bool) (x : List ℤ). (b, x)) d.marks_is d.amounts_is))

-- from the first state and a month's empty places, whatever meets the contracts prints the transcript of the input that the chunks are of
pub prints_transcript : (cs : List (List ℕ)) (text : List ℕ) → Prints first_progress (replicate month_places false) (replicate month_places (pos 0)) cs text → text ≡ ledger_transcript (input_of cs)
prints_transcript cs text p = printed_is p ∙ output_transcript cs

-- and so the history of the input's frames: each line its number as the history rules, and then the total of that history
pub prints_history : (cs : List (List ℕ)) (text : List ℕ) → Prints first_progress (replicate month_places false) (replicate month_places (pos 0)) cs text → text ≡ printed_of (input_of cs)
prints_history cs text p = prints_transcript cs text p ∙ transcript_told (input_of cs)

-- ---- every `feed` of the program is accepted, and so is its `finish`

chunk_kept : (state : Progress) (chunk : List ℕ) (marks : List Bool) (amounts : List ℤ) → book_refusal (book_of state.cover marks amounts) ≡ 0 →
    let next = chunk_book state chunk marks amounts in
    book_refusal (book_of (chunk_state state chunk marks amounts).cover next.board.marks next.board.amounts) ≡ 0
chunk_kept state chunk marks amounts k =
    subst⁻¹ (λ (b : Book). book_refusal b ≡ 0) (book_all (chunk_book state chunk marks amounts)) (all_kept (book_of state.cover marks amounts) (lines_in state.line chunk) k)

reaches_kept : {state : Progress} {marks : List Bool} {amounts : List ℤ} → Reaches state marks amounts → book_refusal (book_of state.cover marks amounts) ≡ 0
unfolding first_progress
reaches_kept started = refl
reaches_kept (fed_on {state = state} {marks = marks} {amounts = amounts} {chunk = chunk} r f) =
    let d = fedly f in
    rw (d.next_is, d.marks_is, d.amounts_is) (chunk_kept state chunk marks amounts (reaches_kept r))

-- a read of at most 65,536 bytes, against the run of 786,432 that the program lends
pub feed_accepted : (κs : Lfts 4) (a : Dens κs feed_kinds.ps) (r : Fed) (s : AtExit (ended_of 4 feed_kinds.ps feed_kinds.r) κs) → feed_reads.Post κs a r s
    → Reaches a.0 (lent_marks a.1) (lent_amounts a.1) → length (lent_chunk a) ≤ 65536 → length (lent_out a.1) ≡ 786432 → r.refusal ≡ 0
unfolding fed_of feed_refusal
feed_accepted κs a r s p reached short long =
    let enough : length (lent_chunk a) ≤ length (lent_out a.1) / 12 = omega arith in
    let room : leb (length (lent_chunk a)) (length (lent_out a.1) / 12) ≡ true = le-leb _ _ enough in
    let none : fed_number a.0 (lent_chunk a) (lent_marks a.1) (lent_amounts a.1) (lent_out a.1) ≡ 0 = rw room (reaches_kept reached) in
    ap (λ (x : Fed). x.refusal) p.0 ∙ ap (λ (x : Fed). x.refusal) (kept_new _ _ none)

pub finish_accepted : (κs : Lfts 3) (a : Dens κs finish_kinds.ps) (r : Finished) (s : AtExit (ended_of 3 finish_kinds.ps finish_kinds.r) κs) → finish_reads.Post κs a r s
    → Reaches a.0 (lent_marks a) (lent_amounts a) → 40 ≤ length (lent_out a) → r.refusal ≡ 0
unfolding finished_of end_refusal
finish_accepted κs a r s p reached long =
    let room : leb 40 (length (lent_out a)) ≡ true = le-leb _ _ long in
    let none : end_number a.0 (lent_marks a) (lent_amounts a) (lent_out a) ≡ 0 = rw room (reaches_kept reached) in
    ap (λ (x : Finished). x.refusal) p.0 ∙ ap (λ (x : Finished). x.refusal) (kept_new _ _ none)

-- ---- there are such calls: the definitions' own answers, with runs lent that are long enough

abbrev lend : {X : Type 0} → X → Bor X
lend x = record { ref_ptr = (0, 0); now = x }

abbrev lend_mut : {X : Type 0} → X → MutBor X
lend_mut x = record { ref_ptr = (0, 0); ghost_name = 0; now = x }

module _ (state : Progress) (chunk : List ℕ) (marks : List Bool) (amounts : List ℤ) (k : book_refusal (book_of state.cover marks amounts) ≡ 0) where
  room_for : ℕ
  room_for = 12 * (length chunk + length (chunk_text state chunk marks amounts))

  run : List ℕ
  run = replicate room_for 0

  run_long : length run ≡ room_for
  unfolding run
  run_long = length-replicate room_for 0

  run_none : fed_number state chunk marks amounts run ≡ 0
  unfolding feed_refusal room_for
  run_none =
      let enough : length chunk ≤ length run / 12 = omega (arith, run_long) in
      rw (le-leb (length chunk) (length run / 12) enough) k

  run_granted : fed_of state chunk marks amounts run ≡ record { refusal = 0; state = chunk_state state chunk marks amounts; written = length (chunk_text state chunk marks amounts) }
  unfolding fed_of
  run_granted = kept_new _ _ run_none

  feeds : Feeds state chunk marks amounts (chunk_state state chunk marks amounts) (chunk_book state chunk marks amounts).board.marks (chunk_book state chunk marks amounts).board.amounts (chunk_text state chunk marks amounts)
  unfolding room_for
  feeds =
      let accepted : (fed_of state chunk marks amounts run).refusal ≡ 0 = ap (λ (r : Fed). r.refusal) run_granted in
      let short : (fed_of state chunk marks amounts run).written ≤ length run = omega (arith, run_long, ap (λ (r : Fed). r.written) run_granted) in
      record {
        κs = ([], ([], ([], ([], tt))));
        handed = (state, (lend chunk, (lend_mut marks, (lend_mut amounts, (lend_mut run, tt)))));
        answer = fed_of state chunk marks amounts run;
        left = (state, (lend chunk, (lend_mut (fed_marks state chunk marks amounts run), (lend_mut (fed_amounts state chunk marks amounts run), (lend_mut (fed_out state chunk marks amounts run), tt)))));
        post = (refl, (refl, (refl, (refl, short))));
        accepted = accepted;
        is_state_lem = refl;
        is_chunk = refl;
        is_marks = refl;
        is_amounts = refl;
        is_next = state_left state chunk marks amounts run accepted;
        is_marks_after = marks_left state chunk marks amounts run accepted;
        is_amounts_after = amounts_left state chunk marks amounts run accepted;
        is_text = text_left state chunk marks amounts run accepted;
      }

module _ (state : Progress) (marks : List Bool) (amounts : List ℤ) (k : book_refusal (book_of state.cover marks amounts) ≡ 0) where
  end_for : ℕ
  end_for = 40 + length (last_text state marks amounts)

  end_run_lem : List ℕ
  end_run_lem = replicate end_for 0

  end_long : length end_run_lem ≡ end_for
  unfolding end_run_lem
  end_long = length-replicate end_for 0

  end_free : end_number state marks amounts end_run_lem ≡ 0
  unfolding end_refusal end_for
  end_free = let enough : 40 ≤ length end_run_lem = omega (arith, end_long) in rw (le-leb 40 (length end_run_lem) enough) k

  finishes : Finishes state marks amounts (last_text state marks amounts)
  unfolding finished_of end_for
  finishes =
      let granted : finished_of state marks amounts end_run_lem ≡ record { refusal = 0; written = length (last_text state marks amounts) } = kept_new _ _ end_free in
      let accepted : (finished_of state marks amounts end_run_lem).refusal ≡ 0 = ap (λ (r : Finished). r.refusal) granted in
      let short : (finished_of state marks amounts end_run_lem).written ≤ length end_run_lem = omega (arith, end_long, ap (λ (r : Finished). r.written) granted) in
      record {
        κs = ([], ([], ([], tt)));
        handed = (state, (lend_mut marks, (lend_mut amounts, (lend_mut end_run_lem, tt))));
        answer = finished_of state marks amounts end_run_lem;
        left = (state, (lend_mut (end_marks state marks amounts end_run_lem), (lend_mut (end_amounts state marks amounts end_run_lem), (lend_mut (end_out state marks amounts end_run_lem), tt))));
        post = (refl, (refl, (refl, (refl, short))));
        accepted = accepted;
        is_state_lem = refl;
        is_marks = refl;
        is_amounts = refl;
        is_text = end_left state marks amounts end_run_lem accepted;
      }

made_from : (state : Progress) (marks : List Bool) (amounts : List ℤ) (cs : List (List ℕ)) → book_refusal (book_of state.cover marks amounts) ≡ 0 → Prints state marks amounts cs (output_from state marks amounts cs)
made_from state marks amounts [] k = finished (finishes state marks amounts k)
made_from state marks amounts (c ∷ cs) k =
    fed (feeds state c marks amounts k)
    (made_from (chunk_state state c marks amounts) (chunk_book state c marks amounts).board.marks (chunk_book state c marks amounts).board.amounts cs
    (chunk_kept state c marks amounts k))

-- any input, however it is cut, is printed so
pub prints_made : (cs : List (List ℕ)) → Prints first_progress (replicate month_places false) (replicate month_places (pos 0)) cs (ledger_transcript (input_of cs))
prints_made cs =
    subst (Prints first_progress (replicate month_places false) (replicate month_places (pos 0)) cs) (output_transcript cs)
    (made_from first_progress (replicate month_places false) (replicate month_places (pos 0)) cs (reaches_kept started))
