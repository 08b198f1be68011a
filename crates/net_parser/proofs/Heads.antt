-- The edition of a text.
use Rattle.std.proofs.Common.{◌≡◌, ◌<◌, ℕ, Bool, true, false, IsTrue, List, Option, None, Some, refl, sym, ap, subst, arith}
use Rattle.std.specs.Prelude.{◌==◌, if◌then◌else◌, is_some}
use Rattle.std.proofs.lemmas.Bool.{eqb-true}
use Rattle.grammar.specs.Reading.{Return, Bind, without, with_one}
use Rattle.grammar.proofs.Passing.{There, there_token, there_bind, there_return, there_many, Apart, starts_inner, starts_apart}
use Rattle.grammar.proofs.Tokens.{there_behind, there_before}
use Rattle.grammar.specs.Tokens.{Behind, Before}
use Rattle.grammar.specs.declared.words.Word.TheVariants.{Number}
use Rattle.net_model.specs.declared.words.Symbol.TheVariants.{Semicolon, Version}
use Rattle.net_model.specs.declared.words.ItemWord.TheVariants.{File, Mode, Bank}
use Rattle.net_model.specs.Editions.{Lexed, added_by}
use Rattle.net_model.specs.Grammar.{IsEditionNumber, IsHead, IsItems}
use Rattle.net_model.specs.Written.{UnitModel}
use Rattle.net_parser.specs.Inner.Steps.{IsHeadNumber, version_word, after_head, after_items}
use Rattle.net_parser.proofs.ItemParts.{there_item, itemed}

pub there_edition_number : There IsEditionNumber
there_edition_number = there_token (record { word = Number 2; at = 0 }) 2 (refl, refl)

pub there_edition : There (Behind Version (Before IsEditionNumber Semicolon))
there_edition = there_behind (there_before there_edition_number)

pub there_items : There IsItems
there_items = there_bind there_item (λ f. there_bind there_many (λ o. there_return))

pub head_apart : {W : Type 0} {make : Option ℕ → List UnitModel → W} → Apart after_head (λ head. Bind IsItems (λ _ items. Return (make head items))) after_items
head_apart = starts_apart (λ a. starts_inner (starts_inner itemed.starts)) (λ t h. ap version_word h.1)

-- the number of a head is that of an edition
pub head_number : (ts : List Lexed) (o : Option ℕ) → IsHead ts o → IsHeadNumber o
head_number ts o (without e n) = subst IsHeadNumber (sym n) tt
head_number ts o (with_one a r n) =
    subst IsHeadNumber (sym n) (subst (λ (x : ℕ). IsTrue (is_some (added_by x))) (sym r.second.second.second.same) r.second.first.is.1)

pub edition_small : (n : ℕ) → IsTrue (is_some (added_by n)) → n < 256
edition_small n h = by (n == 2) (n == 3) (n == 4) refl refl refl h
  where
    by : (b c d : Bool) → (n == 2) ≡ b → (n == 3) ≡ c → (n == 4) ≡ d → IsTrue (is_some (if b then Some File else if c then Some Mode else if d then Some Bank else None)) → n < 256
    by true c d e f g k = omega (arith, eqb-true n 2 e)
    by false true d e f g k = omega (arith, eqb-true n 3 f)
    by false false true e f g k = omega (arith, eqb-true n 4 g)
    by false false false e f g k = absurd (cc k)
