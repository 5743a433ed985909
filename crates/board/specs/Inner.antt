-- What the code in place works with, and no rule of the papers: a call's kind as a flag, and the places of a ledger tested one by one.
use Rattle.std.specs.Prelude.{ℕ, Bool, false, ◌&&◌, List, ltb, eqb, Result, ℤ, pos, nat_abs, get_or}
use Rattle.whole.specs.Choice.{pick}
use Rattle.whole.specs.Folds.{all_to}
use Rattle.units.specs.Limits.{month_places}
use Rattle.history.specs.Rules.{Deed, posts, replaces, withdraws, places_of}
use Rattle.units.specs.Refusals.{wrong_length, refused_as}
use Rattle.units.specs.declared.refusal.Refusal.{Refusal}
use Rattle.head.specs.Inner.{opened_head}
use Rattle.head.specs.declared.Head.{Head}
use Rattle.board.specs.declared.Act.{Act}
use Rattle.board.specs.declared.Act.TheVariants.{Post, Replace, Withdraw}
use Rattle.head.specs.Rules.{Item, amount_item, amount_refusal, month_rules}

-- what the code's calls do, as the rules have it
abbrev pub deed_of : Act → Deed Item
deed_of (Post amount) = posts (amount_item amount.0)
deed_of (Replace amount) = replaces (amount_item amount.0)
deed_of Withdraw = withdraws

-- a filled place is one of the month's and holds an amount; an empty one holds 0 (the board's `fits_at`, at a place's own mark and amount)
abbrev pub place_fits : ℕ → ℕ → Bool → ℤ → Bool
place_fits days p mark amount = pick mark (ltb p (places_of (month_rules days)) && eqb (amount_refusal amount) 0) (eqb (nat_abs amount) 0)

abbrev pub places_fit : ℕ → List Bool → List ℤ → Bool
places_fit days marks amounts = all_to month_places (λ p. place_fits days p (get_or marks p false) (get_or amounts p (pos 0)))

-- what a month opened on runs of those lengths answers
abbrev pub opened_on : ℕ → ℕ → ℕ → Result Head Refusal
opened_on days marks amounts = pick (eqb marks month_places && eqb amounts month_places) (opened_head days) (refused_as wrong_length)
