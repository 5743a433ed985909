-- Desk rule, "Reading": a token, byte by byte, and what it is once it has ended.
use Rattle.std.specs.Prelude.{ℕ, ◌+◌, ◌*◌, min, Bool, ◌&&◌, ◌||◌, eqb, ltb, leb, ℤ, pos}
use Rattle.whole.specs.Choice.{pick}
use Rattle.whole.specs.Whole.{minus}
use Rattle.tokens.specs.Bytes.{line_byte, hash, sign, parts, is_letter, is_digit, digit_of}
use Rattle.words.specs.Faults.{too_large, not_number}
use Rattle.words.specs.Words.{letter_of}
use Rattle.tokens.specs.declared.Token.{Token}
use Rattle.tokens.specs.declared.Next.{Next}
use Rattle.tokens.specs.declared.Numeral.{Numeral}
use Rattle.tokens.specs.declared.Token.TheVariants.{Between, Comment, Word, Sign, Number, Below, Other}

-- ---- one byte more

-- a word's code has its letters in base 32, the first highest: 12 letters stay below this, a 13th does not, and it stands for what is no word
abbrev pub no_word : ℕ
no_word = 1152921504606846976

-- 2^63
abbrev pub limit : ℕ
limit = 9223372036854775808

-- past it a number is too large, whatever follows: sizes are counted up to here
abbrev pub most_size : ℕ
most_size = 9223372036854775809

unfoldable pub word_with : ℕ → ℕ → ℕ
word_with code b = pick (is_letter b) (min (32 * code + letter_of b) no_word) no_word

unfoldable pub size_with : ℕ → ℕ → ℕ
size_with size b = min (10 * size + digit_of b) most_size

-- digits, without a sign and with one
unfoldable pub numbered : ℕ → ℕ → Token
numbered size b = pick (is_digit b) (Number (size_with size b)) Other

unfoldable pub lowered : ℕ → ℕ → Token
lowered size b = pick (is_digit b) (Below (size_with size b)) Other

-- a token's first byte
unfoldable pub begun : ℕ → Token
begun b = pick (is_letter b) (Word (word_with 0 b)) (pick (eqb b sign) Sign (numbered 0 b))

-- the token with a byte that parts no tokens
abbrev pub grown : Token → ℕ → Token
grown Between b = begun b
grown Comment b = Comment
grown (Word code) b = Word (word_with code b)
grown Sign b = lowered 0 b
grown (Number size) b = numbered size b
grown (Below size) b = lowered size b
grown Other b = Other

-- what stands between tokens, a comment, and any other
abbrev pub sort_of : Token → ℕ
sort_of Between = 0
sort_of Comment = 1
sort_of (Word code) = 2
sort_of Sign = 2
sort_of (Number size) = 2
sort_of (Below size) = 2
sort_of Other = 2

abbrev pub is_between : Token → Bool
is_between token = eqb (sort_of token) 0

abbrev pub is_comment : Token → Bool
is_comment token = eqb (sort_of token) 1

-- what stands after a byte that parts tokens: a comment goes on to the line end
unfoldable pub after : Token → ℕ → Token
after token b = pick (eqb b line_byte) Between (pick (eqb b hash || is_comment token) Comment Between)

-- a byte that begins a word
unfoldable pub begins_word : Token → ℕ → Bool
begins_word token b = is_between token && is_letter b

-- what a byte does: the token after it, whether the one before it has ended, and whether it begins a word
unfoldable pub step_of : Token → ℕ → Next
step_of token b = record { token = pick (parts b) (after token b) (grown token b); ended = parts b; word = begins_word token b }

-- ---- a token that has ended

-- a token as a number, its fault before it: 0 where it has none
abbrev pub numeral : ℕ → ℤ → Numeral
numeral fault value = record { fault = fault; value = value }

-- "a value outside -2^63 to 2^63 - 1 is fault 102. Any other token is fault 105."
abbrev pub no_number : Numeral
no_number = numeral not_number (pos 0)

unfoldable pub size_number : ℕ → Numeral
size_number size = pick (ltb size limit) (numeral 0 (pos size)) (numeral too_large (pos 0))

unfoldable pub below_number : ℕ → Numeral
below_number size = pick (leb size limit) (numeral 0 (minus size)) (numeral too_large (pos 0))

abbrev pub token_number : Token → Numeral
token_number Between = no_number
token_number Comment = no_number
token_number (Word code) = no_number
token_number Sign = no_number
token_number (Number size) = size_number size
token_number (Below size) = below_number size
token_number Other = no_number
