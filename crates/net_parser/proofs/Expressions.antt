-- Expressions with levels.
use Rattle.std.proofs.Common.{◌≡◌, ℕ, zero, suc, Bool, false, List, [], ◌∷◌, ◌++◌, Option, Some, map, Box, refl, sym, ap, subst, ◌∙◌}
use Rattle.std.specs.declared.vec.Vec.{Vec}
use Rattle.std.specs.declared.alloc.Global.{Global}
use Rattle.grammar.specs.Reading.{Return, Bind, ListOf, head, never, Reads, Leads}
use Rattle.grammar.proofs.Steps.{token_reads, leads_as}
use Rattle.grammar.proofs.Passing.{There, there_bind, there_return, there_many, Apart, maybe_apart, starts_bind, returned}
use Rattle.grammar.proofs.Repeats.{Repeated}
use Rattle.net_model.specs.Editions.{Lexed, Word}
use Rattle.net_model.specs.Grammar.{LeafBehind, IsLeaf, IsExpr, ExprBehind, IsOperated, NumbersBehind, IsArm, IsRow, RowsBehind, IsElse, Arms, ArmsBehind}
use Rattle.grammar.specs.declared.words.Word.TheVariants.{Name, Number, Symbol as Shows, Key as Keyed, Other}
use Rattle.net_model.specs.declared.words.Key.TheVariants.{Item, Operator as Operates}
use Rattle.net_model.specs.declared.words.Operator.{Operator}
use Rattle.net_model.specs.declared.words.Symbol.TheVariants.{Comma, Else}
use Rattle.net_model.specs.declared.units.NetExpr.{NetExpr, Case}
use Rattle.net_model.specs.Written.{NetExprModel, case, model_of_net_expr, model_of_case_row, case_rows_of, case_rest_of, other_of}
use Rattle.net_model.proofs.Cases.{Row, phrase_Case}
use Rattle.grammar.specs.Tokens.{Behind, ByWord, IsNumber}
use Rattle.net_parser.specs.Inner.Steps.{HasNoOperator, HasNoNumber, OpensNumber, comma_word, number_word, arms_word, after_list, after_rows, after_arms}
use Rattle.grammar.proofs.Tokens.{Shown, begun, there_number, there_behind, there_before, there_word, word_leads}
use Rattle.net_parser.proofs.Leaves.{there_leaf}

map_same : (xs : List ℕ) → map (λ n. n) xs ≡ xs
map_same [] = refl
map_same (x ∷ xs) = ap (λ ys. x ∷ ys) (map_same xs)

pub listed : {V : Type 0} {X : List Lexed → V → Type 0} → Repeated (Shown Comma) (Behind Comma X) never after_list
listed = record { starts = begun; opens = λ t h. ap comma_word h; apart = λ t h. refl; wider = λ t h. refl }

-- ---- the words of an expression

pub there_expr : (d : ℕ) → There (IsExpr d)
unfolding IsExpr
there_expr zero = there_leaf
there_expr (suc d) = there_word (ExprBehind (IsExpr d)) (Number 0) 0 (there_bind (there_behind there_number) (λ w. there_return))

pub operated_leads : (d e : ℕ) → d ≡ suc e → {more : Lexed → Bool} {ts rest : List Lexed} {t : Lexed} {o : Operator} → ts ≡ t ∷ rest → t.word ≡ Keyed (Operates o)
    → Leads (λ v. v) (IsOperated (IsExpr e) o) more rest (IsExpr d) more ts
unfolding IsExpr
operated_leads d e s parts is = rw s (word_leads (ExprBehind (IsExpr e)) parts is)

leaf_word : (E : List Lexed → NetExprModel → Type 0) (w : Word) (at : ℕ) (x : List Lexed) (v : NetExprModel) → LeafBehind w at x v → ExprBehind E w at x v
leaf_word E (Keyed (Operates o)) at x v h = absurd h
leaf_word E (Name n) at x v h = h
leaf_word E (Number n) at x v h = h
leaf_word E (Keyed (Item i)) at x v h = h
leaf_word E (Shows s) at x v h = h
leaf_word E Other at x v h = h

word_leaf : (E : List Lexed → NetExprModel → Type 0) (w : Word) (at : ℕ) (x : List Lexed) (v : NetExprModel) → ((o : Operator) → w ≡ Keyed (Operates o) → ⊥) → ExprBehind E w at x v → LeafBehind w at x v
word_leaf E (Keyed (Operates o)) at x v f h = absurd (f o refl)
word_leaf E (Name n) at x v f h = h
word_leaf E (Number n) at x v f h = h
word_leaf E (Keyed (Item i)) at x v f h = h
word_leaf E (Shows s) at x v f h = h
word_leaf E Other at x v f h = h

pub leaf_leads : (d : ℕ) {more : Lexed → Bool} {ts : List Lexed} → HasNoOperator ts → Leads (λ v. v) IsLeaf more ts (IsExpr d) more ts
unfolding IsExpr
leaf_leads zero no_operator = leads_as (λ x w r. r) (λ x w c e st r. r) (λ c st. st)
leaf_leads (suc d) no_operator = leads_as
    (λ x w r. record { front = r.front; back = r.back; value = r.value; parts = r.parts; first = r.first; second = leaf_word (IsExpr d) r.value.word r.value.at r.back w r.second })
    (λ x w c e st r. record {
      front = r.front;
      back = r.back;
      value = r.value;
      parts = r.parts;
      first = r.first;
      second = word_leaf (IsExpr d) r.value.word r.value.at r.back w
          (λ o is. no_operator.never_so r.first.token (sym e ∙ ap (λ y. head (y ++ c)) (r.parts ∙ ap (λ y. y ++ r.back) r.first.parts)) o (ap (λ (t : Lexed). t.word) (sym r.first.is) ∙ is)) r.second;
    })
    (λ c st. st)

pub bare_leads : (d : ℕ) → d ≡ 0 → {more : Lexed → Bool} {ts : List Lexed} → Leads (λ v. v) IsLeaf more ts (IsExpr d) more ts
unfolding IsExpr
bare_leads d e = rw e (leads_as (λ x w r. r) (λ x w c e st r. r) (λ c st. st))

-- ---- rows

pub there_arm : (d : ℕ) → There (IsArm (IsExpr d))
there_arm d = there_before (there_behind (there_expr d))

pub there_rows : {E : List Lexed → NetExprModel → Type 0} {first : List ℕ × NetExprModel} → There (RowsBehind E first)
there_rows = there_bind there_many (λ rs. there_return)

pub there_arms : (d : ℕ) → There (ByWord (ArmsBehind (IsExpr d)))
there_arms d = there_word (ArmsBehind (IsExpr d)) (Shows Else) 0 (there_bind (there_arm d) (λ a. there_return))

pub rowed : (E : List Lexed → NetExprModel → Type 0) → Repeated (λ t. (n : ℕ) × (t.word ≡ Number n)) (IsRow E) never after_rows
rowed E = record { starts = starts_bind (λ t n h. (n, h)); opens = λ t b. ap number_word b.1; apart = λ t b. refl; wider = λ t e. refl }

number_goes_on : (w : Word) → arms_word w ≡ false → number_word w ≡ false
number_goes_on (Number n) e = absurd cc
number_goes_on _ e = refl

pub rows_apart : {E : List Lexed → NetExprModel → Type 0} {W : Type 0} {make : List (List ℕ × NetExprModel) → Option NetExprModel → W} → Apart after_rows (λ rs. Bind (IsElse E) (λ _ o. Return (make rs o))) after_arms
rows_apart = maybe_apart begun (λ t h. ap number_word h) (λ t e. number_goes_on t.word e) (λ a o x w r. r.empty)

-- a rest alone, where no row stands
else_word : (E : List Lexed → NetExprModel → Type 0) (w : Word) (at : ℕ) (x : List Lexed) (v : Arms) → ((n : ℕ) → w ≡ Number n → ⊥) → ArmsBehind E w at x v → (w ≡ Shows Else) × Bind (IsArm E) (λ _ a. Return ([], Some a)) x v
else_word E (Number n) at x v f h = absurd (f n refl)
else_word E (Shows Else) at x v f h = (refl, h)
else_word E _ at x v f h = absurd h

pub else_leads : (E : List Lexed → NetExprModel → Type 0) {more : Lexed → Bool} {ts : List Lexed} → HasNoNumber ts
    → Leads (λ v. v) (Behind Else (Bind (IsArm E) (λ _ a. Return ([], Some a)))) more ts (ByWord (ArmsBehind E)) more ts
else_leads E no_number = leads_as
    (λ x w r. record {
      front = r.front;
      back = r.back;
      value = r.first.token;
      parts = r.parts;
      first = record { token = r.first.token; parts = r.first.parts; is = refl };
      second = subst (λ y. ArmsBehind E y r.first.token.at r.back w) (sym r.first.is) r.second;
    })
    (λ x w c e st r.
    let word_is : r.first.token.word ≡ r.value.word = ap (λ (t : Lexed). t.word) (sym r.first.is) in
    let k = else_word E r.value.word r.value.at r.back w (λ n is. no_number.never_so r.first.token (sym e ∙ ap (λ y. head (y ++ c)) (r.parts ∙ ap (λ y. y ++ r.back) r.first.parts)) n (word_is ∙ is)) r.second in
    record { front = r.front; back = r.back; value = tt; parts = r.parts; first = record { token = r.first.token; parts = r.first.parts; is = word_is ∙ k.0 }; second = k.1 })
    (λ c st. st)

-- ---- the loops

pub numbers_start : {n : ℕ} {xs : List ℕ} {ts : List Lexed} → xs ≡ n ∷ [] → Leads (λ ns. map (λ n. n) xs ++ ns) (ListOf (Behind Comma IsNumber)) after_list ts (NumbersBehind n) after_list ts
numbers_start {n = n} {ts = ts} e = subst (λ xs. Leads (λ ns. map (λ n. n) xs ++ ns) (ListOf (Behind Comma IsNumber)) after_list ts (NumbersBehind n) after_list ts) (sym e) returned

pub numbers_end : {n : ℕ} {xs : List ℕ} {ts rest : List Lexed} → Reads (NumbersBehind n) after_list ts (map (λ n. n) xs) rest → Reads (NumbersBehind n) after_list ts xs rest
numbers_end {n = n} {xs = xs} {ts = ts} {rest = rest} r = subst (λ y. Reads (NumbersBehind n) after_list ts y rest) (map_same xs) r

pub rows_start : {E : List Lexed → NetExprModel → Type 0} {r : Row} {xs : List Row} {ts : List Lexed} → xs ≡ r ∷ [] → Leads (λ rs. map model_of_case_row xs ++ rs) (ListOf (IsRow E)) after_rows ts (RowsBehind E (model_of_case_row r)) after_rows ts
rows_start {E = E} {r = r} {ts = ts} e = subst (λ xs. Leads (λ rs. map model_of_case_row xs ++ rs) (ListOf (IsRow E)) after_rows ts (RowsBehind E (model_of_case_row r)) after_rows ts) (sym e) returned

pub number_reads : {n : ℕ} {ts rest : List Lexed} {more : Lexed → Bool} → OpensNumber n ts rest → Reads IsNumber more ts n rest
number_reads {n = n} o = token_reads o.parts o.is (λ w h. (let e : Number w ≡ Number n = sym h ∙ o.is in cc))

pub case_reads : {R : List Lexed → NetExprModel → Type 0} {more : Lexed → Bool} {ts rest : List Lexed} (sel : Box NetExpr Global) (rows : Vec Row Global) (other : Option (Box NetExpr Global))
    → Reads R more ts (case (model_of_net_expr sel.value) (case_rows_of (map model_of_case_row rows.items)) (case_rest_of (other_of other))) rest → Reads R more ts (model_of_net_expr (Case sel rows other)) rest
case_reads {R = R} {more = more} {ts = ts} {rest = rest} sel rows other r = subst (λ (v : NetExprModel). Reads R more ts v rest) (sym (phrase_Case sel rows other)) r
