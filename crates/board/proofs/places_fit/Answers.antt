-- `board::places_fit`: the answer of `all` over the places with their numbers is the test of each place. Assumes nothing.
use mathlib.Core.Path.{◌≡◌}
use mathlib.Core.Bool.{true, false}
use borrow.Author.Rules.{rules}
use borrow.Author.Tests.{tests}
use Rattle.std.proofs.lemmas.Iterator.{cases_from_all, YieldsList-from_slice, YieldsList-from_zip}
use Rattle.std.proofs.lemmas.Iterator.Consumers.{YieldsList-from_enumerate}
use Rattle.board.proofs.Each.{each_of}
use Rattle.board.specs.Inner.{place_fits}
use Rattle.board.proofs.places_fit.Goals as goal

pub returns : goal.returns
returns c =
    let a = c.args in
    each_of a.marks.now a.amounts.now c.requires.0 c.requires.1 (λ p. place_fits a.days p.0 p.1.0 p.1.1) c.all.result
    (cases_from_all c.all.new.self _ _ (λ p. place_fits a.days p.0 p.1.0 p.1.1 ≡ true) (λ p. place_fits a.days p.0 p.1.0 p.1.1 ≡ false) c.all.ensures.ran
    (YieldsList-from_enumerate (YieldsList-from_zip (YieldsList-from_slice a.marks.now cc) (YieldsList-from_slice a.amounts.now cc)) cc)
    (λ x q k. search (rules, tests)) (λ x q k. search (rules, tests)))
