-- Expressions without levels.
use Rattle.std.proofs.Common.{◌≡◌, ℕ, false, List, Option, refl, ap}
use Rattle.grammar.specs.Reading.{Return, Bind}
use Rattle.grammar.proofs.Passing.{There, there_bind, there_return, there_maybe, Apart, maybe_apart}
use Rattle.grammar.specs.declared.words.Ident.{Ident}
use Rattle.net_model.specs.Editions.{Lexed, Word}
use Rattle.net_model.specs.Grammar.{IsRange, IsBits, LeafBehind, IsLeaf}
use Rattle.grammar.specs.declared.words.Word.TheVariants.{Name, Number, Symbol as Shows}
use Rattle.net_model.specs.declared.words.Symbol.TheVariants.{Dot}
use Rattle.net_model.specs.Written.{NetExprModel}
use Rattle.net_parser.specs.Inner.Steps.{dot_word, expr_word, after_field, after_expr}
use Rattle.grammar.proofs.Tokens.{there_number, there_behind, there_word, begun}

pub there_range : There IsRange
there_range = there_bind there_number (λ hi. there_bind there_maybe (λ lo. there_return))

pub there_leaf : There IsLeaf
there_leaf = there_word LeafBehind (Number 0) 0 (there_bind (there_behind there_number) (λ w. there_return))

dot_goes_on : (w : Word) → expr_word w ≡ false → dot_word w ≡ false
dot_goes_on (Shows Dot) e = absurd cc
dot_goes_on _ e = refl

pub field_apart : {W : Type 0} {make : Option Ident → Option (ℕ × ℕ) → W} → Apart after_field (λ f. Bind IsBits (λ _ b. Return (make f b))) after_expr
field_apart = maybe_apart begun (λ t h. ap dot_word h) (λ t e. dot_goes_on t.word e) (λ a o x w r. r.empty)

pub no_leaf : (w : Word) → ((n : List ℕ) → w ≡ Name n → ⊥) → ((n : ℕ) → w ≡ Number n → ⊥) → (at : ℕ) (x : List Lexed) (v : NetExprModel) → LeafBehind w at x v → ⊥
no_leaf (Name n) a b at x v h = a n refl
no_leaf (Number n) a b at x v h = b n refl
no_leaf _ a b at x v h = h
