-- Texts as bytes: what is a text has no fault, a fault is at one place, and a text has no more
-- items than bytes.
use Rattle.std.proofs.Common.{◌≡◌, ◌≤◌, ℕ, Bool, true, false, cond, List, length, map, refl, slice_get, ap, arith, length-append}
use Rattle.std.proofs.lemmas.List.{length-map}
use Rattle.grammar.proofs.Faults.{none_in_text, one_offset}
use Rattle.grammar.specs.Reading.{ListOf, none, some}
use Rattle.net_lexer.specs.Netlists.{netlists}
use Rattle.net_model.specs.Editions.{Lexed, edited, lexed_in, item_told, names_version}
use Rattle.net_model.specs.Grammar.{IsItem, IsItems, IsText}
use Rattle.net_model.specs.Written.{UnitModel, UnitsModel}
use Rattle.lexing.specs.Words.{lexed_all}
use Rattle.net_lexer.specs.Netlists.{net_tokens}
use Rattle.net_parser.specs.Words.{reserved_of, sign_word}
use Rattle.net_parser.specs.Texts.{net_lexed, IsNetText, IsNoNetText}
use Rattle.lexing.proofs.TokenLaws.{few_words}

pub no_fault_of_net_text : (bytes : List ℕ) (text : UnitsModel) (offset : ℕ) → IsNetText bytes text → IsNoNetText bytes offset → ⊥
no_fault_of_net_text bytes text offset is faulty = none_in_text IsText bytes (net_lexed bytes) offset faulty.fault text is.spelled

pub one_net_fault : (bytes : List ℕ) (offset later : ℕ) → IsNoNetText bytes offset → IsNoNetText bytes later → offset ≡ later
one_net_fault bytes offset later a b = one_offset IsText bytes (net_lexed bytes) offset later a.fault b.fault

-- ---- no more items than bytes

item_long : (ts : List Lexed) (e : UnitModel) → IsItem ts e → 1 ≤ length ts
item_long ts e i = omega (arith, ap length i.parts, length-append i.front i.back, ap length i.first.parts)

items_long : (ts : List Lexed) (es : List UnitModel) → ListOf IsItem ts es → length es ≤ length ts
items_long ts es none = omega arith
items_long ts es (some {us = us} {b = b} {zs = zs} {w = w} p q) =
    let k : length w ≤ length zs = items_long zs w q in
    omega (arith, item_long us b p, length-append us zs)

all_long : (ts : List Lexed) (es : List UnitModel) → IsItems ts es → length es ≤ length ts
all_long ts es t =
    let k : length t.second.value ≤ length t.second.front = items_long t.second.front t.second.value t.second.first in
    omega (
      arith,
      ap length t.parts,
      length-append t.front t.back,
      item_long t.front t.value t.first,
      ap length t.second.parts,
      length-append t.second.front t.second.back,
      ap length t.second.second.same,
    )

text_long : (ts : List Lexed) (text : UnitsModel) → IsText ts text → length text.items ≤ length ts
text_long ts text t =
    omega (
      arith,
      ap length t.parts,
      length-append t.front t.back,
      ap length t.second.parts,
      length-append t.second.front t.second.back,
      all_long t.second.front t.second.value t.second.first,
      ap (λ (x : UnitsModel). length x.items) t.second.second.same,
    )

edited_long : (ts : List Lexed) → length (edited ts) ≡ length ts
edited_long ts = by (names_version (slice_get ts 0))
  where
    by : (b : Bool) → length (cond b (map (lexed_in (item_told (slice_get ts 1))) ts) ts) ≡ length ts
    by true = length-map ts (lexed_in (item_told (slice_get ts 1)))
    by false = refl

-- a text has no more items than bytes
pub short_text : (bytes : List ℕ) (text : UnitsModel) → IsNetText bytes text → length text.items ≤ length bytes
short_text bytes text is =
    omega (arith, text_long (net_lexed bytes) text is.spelled, edited_long (lexed_all reserved_of sign_word bytes (net_tokens bytes)), few_words reserved_of sign_word netlists bytes)
