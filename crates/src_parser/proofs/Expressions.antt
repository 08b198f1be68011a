-- Expressions.
use Rattle.std.proofs.Common.{◌≡◌, ℕ, zero, suc, ◌-◌, ◌+◌, ◌≤◌, Bool, true, false, List, [], ◌∷◌, ◌++◌, length, Option, Some, None, Box, refl, sym, ap, subst, ◌∙◌, arith, ◌==◌, nat_le, if◌then◌else◌}
use Rattle.std.proofs.lemmas.Bool.{eqb-true}
use Rattle.std.proofs.lemmas.List.{append-nil}
use Rattle.std.specs.declared.alloc.Global.{Global}
use Rattle.grammar.specs.declared.stop.ParseStop.{ParseStop}
use Rattle.grammar.specs.declared.stop.ParseStop.TheVariants.{At}
use Rattle.grammar.specs.Reading.{Return, Bind, Within, Tail, done, head, never, Reads, FailsAs, Leads}
use Rattle.grammar.proofs.Steps.{leads_as, return_reads, never_stops}
use Rattle.grammar.proofs.Passing.{then_leads, reads_too}
use Rattle.grammar.proofs.Limits.{within_reads}
use Rattle.grammar.proofs.Chains.{Chained, chain_leads, chain_fails, tail_ends, tail_leads, tail_fails}
use Rattle.rec_bits.specs.declared.operator.Op2.{Op2}
use Rattle.rec_bits.specs.declared.operator.Op2.TheVariants.{Sub}
use Rattle.rec_bits.proofs.Options.{same_Some}
use Rattle.src_model.specs.Grammar.{Lexed, Word, IsIndex, UnaryBehind, Chains, IsUnary, IsExpr, op_of, op_at, rank, join}
use Rattle.grammar.specs.declared.words.Word.TheVariants.{Name, Number, Symbol as Shows, Key as Keyed}
use Rattle.src_model.specs.declared.words.Key.TheVariants.{Operator as Operates, Call as Calls}
use Rattle.src_model.specs.declared.words.Symbol.{Symbol}
use Rattle.src_model.specs.declared.words.Symbol.TheVariants.{Comma, Tilde, LeftParen, RightParen, LeftBracket, RightBracket}
use Rattle.src_model.specs.declared.program.SrcExpr.{SrcExpr}
use Rattle.src_model.specs.declared.program.SrcNode.{Var}
use Rattle.src_model.specs.declared.program.Spot.{roll-Spot}
use Rattle.src_model.specs.Written.{SrcExprModel, num, model_of_src_node, node_at, index_of}
use Rattle.grammar.specs.Tokens.{Behind, Before, ByWord, Sign, IsNothing, IsNumber, BeginsWith}
use Rattle.src_parser.specs.declared.expression.Opening.{Opening}
use Rattle.src_parser.specs.declared.expression.Opening.TheVariants.{Sign as Signs, Paren, Call as Asks}
use Rattle.src_parser.specs.Inner.Steps.{InExpr, OpenBehind, OpensIndex, opening_of, least_of, word_rank, may_follow, after}
use Rattle.src_parser.proofs.Rooms.{Short, AtLeast, AtMost, word_within, word_ends, word_misses, none_within, maybe_within, token_least, token_most, return_most, any_least, bind_least, bind_most, short_token, short_return, short_bind}

-- ---- ranks

is_true : {A : Type 0} (x : A) {o : A} (b : Bool) → (if b then Some x else None) ≡ Some o → b ≡ true
is_true x true e = refl
is_true x false e = absurd cc

op_rank : (k : ℕ) (w : Word) (o : Op2) → op_of k w ≡ Some o → word_rank w ≡ k
op_rank k (Keyed (Operates op)) o e = eqb-true (rank op) k (is_true op (rank op == k) e)
op_rank k _ o e = absurd cc

rank_follows : (k n : ℕ) → n ≡ k → nat_le n k ≡ true
rank_follows k n e = grind arith

rank_ends : (k n : ℕ) → n ≡ suc k → nat_le n k ≡ false
rank_ends k n e = grind arith

rank_wider : (k n : ℕ) → nat_le n (suc k) ≡ false → nat_le n k ≡ false
rank_wider k n e = grind arith

-- ---- how many tokens an expression has

by_word_some : (B : Word → ℕ → List Lexed → SrcExprModel → Type 0) → AtLeast 1 (ByWord B)
by_word_some B = bind_least 1 0 token_least (λ a. any_least)

pub unary_some : (d : ℕ) → AtLeast 1 (IsUnary d)
unfolding IsUnary
unary_some zero = by_word_some (UnaryBehind IsNothing IsNothing)
unary_some (suc d) = by_word_some (UnaryBehind (IsUnary d) (IsExpr d))

pub chain_some : (k d : ℕ) → AtLeast 1 (Chains k (IsUnary d))
chain_some zero d = unary_some d
chain_some (suc k) d = bind_least 1 0 (chain_some k d) (λ a. any_least)

pub chained : (k d : ℕ) → Chained (Chains k (IsUnary d)) (op_at (suc k)) (after k) (after (suc k))
chained k d = record {
  opens = λ t o e. rank_follows (suc k) (word_rank t.word) (op_rank (suc k) t.word o e);
  closes = λ t o e. rank_ends k (word_rank t.word) (op_rank (suc k) t.word o e);
  wider = λ t e. rank_wider k (word_rank t.word) e;
  some = λ us b r. (chain_some k d).at us b r;
}

-- ---- a text of one token

abbrev number : ℕ → SrcExprModel
number at = record { at = at; shape = num 0 }

short_number : {U E : List Lexed → SrcExprModel → Type 0} → Short 1 (ByWord (UnaryBehind U E))
short_number = record {
  text = record { word = Number 0; at = 0 } ∷ [];
  value = number 0;
  is = record { front = record { word = Number 0; at = 0 } ∷ []; back = []; value = record { word = Number 0; at = 0 }; parts = refl; first = record { token = record { word = Number 0; at = 0 }; parts = refl; is = refl }; second = record { empty = refl; same = refl } };
  fits = omega arith;
}

pub short_unary : (d : ℕ) → Short 1 (IsUnary d)
unfolding IsUnary
short_unary zero = short_number
short_unary (suc d) = short_number

pub short_chain : (k d : ℕ) → Short 1 (Chains k (IsUnary d))
short_chain zero d = short_unary d
short_chain (suc k) d =
    let a = short_chain k d in
    let f : length a.text ≤ 1 = a.fits in
    record { text = a.text; value = a.value; is = record { front = a.text; back = []; value = a.value; parts = sym (append-nil a.text); first = a.is; second = done }; fits = f }

-- ---- chains

pub chain_stuck : (j k d : ℕ) → suc j ≡ k → {room : ℕ} {ts : List Lexed} {stop : ParseStop} → FailsAs (Within room (Chains j (IsUnary d))) (after j) ts stop → FailsAs (Within room (Chains k (IsUnary d))) (after k) ts stop
chain_stuck j k d s {room = room} {ts = ts} {stop = stop} f = subst (λ n. FailsAs (Within room (Chains n (IsUnary d))) (after n) ts stop) s (chain_fails (chained j d) join f)

pub chain_on : (j k d : ℕ) → suc j ≡ k → {room : ℕ} {ts m : List Lexed} {a : SrcExprModel} → Reads (Within room (Chains j (IsUnary d))) (after j) ts a m
    → Leads (λ v. v) (Within (room - (length ts - length m)) (Tail (Chains j (IsUnary d)) (op_at k) join a)) (after k) m (Within room (Chains k (IsUnary d))) (after k) ts
chain_on j k d s {room = room} {ts = ts} {m = m} {a = a} p = subst (λ n. Leads (λ v. v) (Within (room - (length ts - length m)) (Tail (Chains j (IsUnary d)) (op_at n) join a)) (after n) m (Within room (Chains n (IsUnary d))) (after n) ts) s (chain_leads (chained j d) join p)

pub tail_stop : (j k d : ℕ) → suc j ≡ k → {room : ℕ} {ts : List Lexed} {a : SrcExprModel} → ((t : Lexed) (o : Op2) → head ts ≡ Some t → op_at k t ≡ Some o → room ≤ 1) → Reads (Within room (Tail (Chains j (IsUnary d)) (op_at k) join a)) (after k) ts a ts
tail_stop j k d s {room = room} {ts = ts} {a = a} ends = subst (λ n. Reads (Within room (Tail (Chains j (IsUnary d)) (op_at n) join a)) (after n) ts a ts) s (tail_ends (chained j d) join (λ t o h is. ends t o h (subst (λ n. op_at n t ≡ Some o) s is)))

pub tail_stuck : (j k d : ℕ) → suc j ≡ k → {room : ℕ} {all ts : List Lexed} {a : SrcExprModel} {t : Lexed} {o : Op2} {stop : ParseStop} → all ≡ t ∷ ts → op_at k t ≡ Some o → 1 ≤ room → FailsAs (Within (room - 1) (Chains j (IsUnary d))) (after j) ts stop
    → FailsAs (Within room (Tail (Chains j (IsUnary d)) (op_at k) join a)) (after k) all stop
tail_stuck j k d s {room = room} {all = all} {a = a} {t = t} {o = o} {stop = stop} parts is long f = subst (λ n. FailsAs (Within room (Tail (Chains j (IsUnary d)) (op_at n) join a)) (after n) all stop) s (tail_fails (chained j d) join parts (subst (λ n. op_at n t ≡ Some o) (sym s) is) long f)

pub tail_on : (j k d : ℕ) → suc j ≡ k → {room : ℕ} {all ts m : List Lexed} {a b v : SrcExprModel} {t : Lexed} {o : Op2} → all ≡ t ∷ ts → op_at k t ≡ Some o → 1 ≤ room → v ≡ join a o b → Reads (Within (room - 1) (Chains j (IsUnary d))) (after j) ts b m
    → Leads (λ v. v) (Within (room - 1 - (length ts - length m)) (Tail (Chains j (IsUnary d)) (op_at k) join v)) (after k) m (Within room (Tail (Chains j (IsUnary d)) (op_at k) join a)) (after k) all
tail_on j k d s {room = room} {all = all} {ts = ts} {m = m} {a = a} {b = b} {t = t} {o = o} parts is long made p =
    subst (λ w. Leads (λ v. v) (Within (room - 1 - (length ts - length m)) (Tail (Chains j (IsUnary d)) (op_at k) join w)) (after k) m (Within room (Tail (Chains j (IsUnary d)) (op_at k) join a)) (after k) all) (sym made)
    (subst (λ n. Leads (λ v. v) (Within (room - 1 - (length ts - length m)) (Tail (Chains j (IsUnary d)) (op_at n) join (join a o b))) (after n) m (Within room (Tail (Chains j (IsUnary d)) (op_at n) join a)) (after n) all) s
    (tail_leads (chained j d) join parts (subst (λ n. op_at n t ≡ Some o) (sym s) is) long p))

-- ---- what opens a level

widely : {T V : Type 0} {R : List T → V → Type 0} {room : ℕ} → 1 ≤ room → Short 1 R → Short room R
widely long s = (let f : length s.text ≤ 1 = s.fits in record { text = s.text; value = s.value; is = s.is; fits = omega arith })

open_to : (U E : List Lexed → SrcExprModel → Type 0) (w : Word) (o : Opening) (at : ℕ) (x : List Lexed) (v : SrcExprModel) → opening_of w ≡ Some o → OpenBehind U E o at x v → UnaryBehind U E w at x v
open_to U E (Keyed (Operates Sub)) o at x v e h = subst (λ o. OpenBehind U E o at x v) (same_Some _ _ (sym e)) h
open_to U E (Shows Tilde) o at x v e h = subst (λ o. OpenBehind U E o at x v) (same_Some _ _ (sym e)) h
open_to U E (Shows LeftParen) o at x v e h = subst (λ o. OpenBehind U E o at x v) (same_Some _ _ (sym e)) h
open_to U E (Keyed (Calls call)) o at x v e h = subst (λ o. OpenBehind U E o at x v) (same_Some _ _ (sym e)) h
open_to U E _ o at x v e h = absurd cc

pub open_from : (U E : List Lexed → SrcExprModel → Type 0) (w : Word) (o : Opening) (at : ℕ) (x : List Lexed) (v : SrcExprModel) → opening_of w ≡ Some o → UnaryBehind U E w at x v → OpenBehind U E o at x v
open_from U E (Keyed (Operates Sub)) o at x v e h = subst (λ o. OpenBehind U E o at x v) (same_Some _ _ e) h
open_from U E (Shows Tilde) o at x v e h = subst (λ o. OpenBehind U E o at x v) (same_Some _ _ e) h
open_from U E (Shows LeftParen) o at x v e h = subst (λ o. OpenBehind U E o at x v) (same_Some _ _ e) h
open_from U E (Keyed (Calls call)) o at x v e h = subst (λ o. OpenBehind U E o at x v) (same_Some _ _ e) h
open_from U E _ o at x v e h = absurd cc

pub open_within : (levels d : ℕ) → levels ≡ suc d → {more : Lexed → Bool} {room : ℕ} {ts rest : List Lexed} {t : Lexed} {o : Opening} → 1 ≤ room → ts ≡ t ∷ rest → opening_of t.word ≡ Some o
    → Leads (λ v. v) (Within (room - 1) (OpenBehind (IsUnary d) (IsExpr d) o t.at)) more rest (Within room (IsUnary levels)) more ts
unfolding IsUnary
open_within levels d s {t = t} {o = o} long parts is = rw s (then_leads (leads_as
    (λ x w r. record { text = open_to (IsUnary d) (IsExpr d) t.word o t.at x w is r.text; fits = r.fits })
    (λ x w c e st r. record { text = open_from (IsUnary d) (IsExpr d) t.word o t.at x w is r.text; fits = r.fits })
    (λ c st. st)) (word_within (UnaryBehind (IsUnary d) (IsExpr d)) long parts))

nothing_opens : (o : Opening) (at : ℕ) (x : List Lexed) (v : SrcExprModel) → OpenBehind IsNothing IsNothing o at x v → ⊥
nothing_opens (Signs op) at x v h = h.first
nothing_opens Paren at x v h = h.first.first
nothing_opens (Asks call) at x v h = h.first.second

pub width_behind : {make : ℕ → SrcExprModel} → AtLeast {T = Lexed} {V = SrcExprModel} 3 (Bind (Before (Behind Comma IsNumber) RightParen) (λ _ n. Return (make n)))
width_behind = bind_least 3 0 (bind_least 2 1 (bind_least 1 1 token_least (λ u. token_least)) (λ n. bind_least 1 0 token_least (λ u. any_least))) (λ n. any_least)

pub width_most : {make : ℕ → SrcExprModel} → AtMost {T = Lexed} {V = SrcExprModel} 3 (Bind (Before (Behind Comma IsNumber) RightParen) (λ _ n. Return (make n)))
width_most = bind_most 3 0 (bind_most 2 1 (bind_most 1 1 (token_most one) (λ u. token_most one)) (λ n. bind_most 1 0 (token_most one) (λ u. return_most))) (λ n. return_most)
  where
    one : 1 ≤ 1
    one = omega arith

pub short_sign : {s : Symbol} → Short {T = Lexed} 1 (Sign s)
short_sign {s = s} = short_token (record { word = Shows s; at = 0 }) tt refl

pub short_width : {make : ℕ → SrcExprModel} → Short {T = Lexed} {V = SrcExprModel} 3 (Bind (Before (Behind Comma IsNumber) RightParen) (λ _ n. Return (make n)))
short_width = short_bind 3 0 (short_bind 2 1 (short_bind 1 1 short_sign (λ u. short_token (record { word = Number 0; at = 0 }) 0 refl)) (λ n. short_bind 1 0 short_sign (λ u. short_return))) (λ n. short_return)

open_least : (d : ℕ) (o : Opening) (at : ℕ) (x : List Lexed) (v : SrcExprModel) → OpenBehind (IsUnary d) (IsExpr d) o at x v → least_of o ≤ 1 + length x
open_least d (Signs op) at x v h = (let f = (bind_least 1 0 (unary_some d) (λ a. any_least)).at x v h in omega arith)
open_least d Paren at x v h = (let f = (bind_least 2 0 (bind_least 1 1 (chain_some 6 d) (λ a. bind_least 1 0 token_least (λ u. any_least))) (λ a. any_least)).at x v h in omega arith)
open_least d (Asks call) at x v h = (let f = (bind_least 2 3 (bind_least 1 1 token_least (λ u. chain_some 6 d)) (λ a. width_behind)).at x v h in omega arith)

pub not_opened : (levels : ℕ) {more : Lexed → Bool} {room : ℕ} {ts rest : List Lexed} {t : Lexed} {o : Opening} → 1 ≤ room → ts ≡ t ∷ rest → opening_of t.word ≡ Some o → (1 ≤ levels → least_of o ≤ room → ⊥)
    → FailsAs (Within room (IsUnary levels)) more ts (At (length ts))
unfolding IsUnary
not_opened zero {t = t} {o = o} long parts is bar = word_misses (UnaryBehind IsNothing IsNothing) (widely long short_number) parts (λ x v h f. nothing_opens o t.at x v (open_from IsNothing IsNothing t.word o t.at x v is h))
not_opened (suc d) {t = t} {o = o} long parts is bar = word_misses (UnaryBehind (IsUnary d) (IsExpr d)) (widely long short_number) parts (λ x v h f.
    let g = open_least d o t.at x v (open_from (IsUnary d) (IsExpr d) t.word o t.at x v is h) in
    bar (omega arith) (omega arith))

-- ---- what opens none

no_leaf : (U E : List Lexed → SrcExprModel → Type 0) (w : Word) → opening_of w ≡ None → ((n : List ℕ) → w ≡ Name n → ⊥) → ((n : ℕ) → w ≡ Number n → ⊥) → (at : ℕ) (x : List Lexed) (v : SrcExprModel) → UnaryBehind U E w at x v → ⊥
no_leaf U E (Name n) e a b at x v h = a n refl
no_leaf U E (Number n) e a b at x v h = b n refl
no_leaf U E (Keyed (Operates Sub)) e a b at x v h = absurd cc
no_leaf U E (Shows Tilde) e a b at x v h = absurd cc
no_leaf U E (Shows LeftParen) e a b at x v h = absurd cc
no_leaf U E (Keyed (Calls call)) e a b at x v h = absurd cc
no_leaf U E _ e a b at x v h = h

pub unary_missed : (levels : ℕ) {more : Lexed → Bool} {room : ℕ} {ts rest : List Lexed} {t : Lexed} → 1 ≤ room → ts ≡ t ∷ rest → opening_of t.word ≡ None → ((n : List ℕ) → t.word ≡ Name n → ⊥) → ((n : ℕ) → t.word ≡ Number n → ⊥)
    → FailsAs (Within room (IsUnary levels)) more ts (At (length ts))
unfolding IsUnary
unary_missed zero {t = t} long parts e a b = word_misses (UnaryBehind IsNothing IsNothing) (widely long short_number) parts (λ x v h f. no_leaf IsNothing IsNothing t.word e a b t.at x v h)
unary_missed (suc d) {t = t} long parts e a b = word_misses (UnaryBehind (IsUnary d) (IsExpr d)) (widely long short_number) parts (λ x v h f. no_leaf (IsUnary d) (IsExpr d) t.word e a b t.at x v h)

pub unary_ended : (levels : ℕ) {more : Lexed → Bool} {room : ℕ} {ts : List Lexed} → 1 ≤ room → ts ≡ [] → FailsAs (Within room (IsUnary levels)) more ts (At 0)
unfolding IsUnary
unary_ended zero long e = word_ends (UnaryBehind IsNothing IsNothing) (widely long short_number) e
unary_ended (suc d) long e = word_ends (UnaryBehind (IsUnary d) (IsExpr d)) (widely long short_number) e

pub named_within : (levels : ℕ) {more : Lexed → Bool} {room : ℕ} {ts rest : List Lexed} {t : Lexed} {n : List ℕ} → 1 ≤ room → ts ≡ t ∷ rest → t.word ≡ Name n
    → Leads (λ v. v) (Within (room - 1) (UnaryBehind IsNothing (InExpr levels) (Name n) t.at)) more rest (Within room (IsUnary levels)) more ts
unfolding IsUnary
named_within zero {more = more} {room = room} {ts = ts} {rest = rest} {t = t} long parts is = subst (λ w. Leads (λ v. v) (Within (room - 1) (UnaryBehind IsNothing IsNothing w t.at)) more rest (Within room (IsUnary zero)) more ts) is (word_within (UnaryBehind IsNothing IsNothing) long parts)
named_within (suc d) {more = more} {room = room} {ts = ts} {rest = rest} {t = t} long parts is = subst (λ w. Leads (λ v. v) (Within (room - 1) (UnaryBehind (IsUnary d) (IsExpr d) w t.at)) more rest (Within room (IsUnary (suc d))) more ts) is (word_within (UnaryBehind (IsUnary d) (IsExpr d)) long parts)

pub number_within : (levels : ℕ) {more : Lexed → Bool} {room : ℕ} {ts rest : List Lexed} {t : Lexed} {n : ℕ} → 1 ≤ room → ts ≡ t ∷ rest → t.word ≡ Number n
    → Reads (Within room (IsUnary levels)) more ts (record { at = t.at; shape = num n }) rest
unfolding IsUnary
number_within zero {more = more} {room = room} {ts = ts} {rest = rest} {t = t} {n = n} long parts is = reads_too (subst (λ w. Leads (λ v. v) (Within (room - 1) (UnaryBehind IsNothing IsNothing w t.at)) more rest (Within room (IsUnary zero)) more ts) is (word_within (UnaryBehind IsNothing IsNothing) long parts)) (within_reads (omega arith) return_reads)
number_within (suc d) {more = more} {room = room} {ts = ts} {rest = rest} {t = t} {n = n} long parts is = reads_too (subst (λ w. Leads (λ v. v) (Within (room - 1) (UnaryBehind (IsUnary d) (IsExpr d) w t.at)) more rest (Within room (IsUnary (suc d))) more ts) is (word_within (UnaryBehind (IsUnary d) (IsExpr d)) long parts)) (within_reads (omega arith) return_reads)

-- ---- an index

index_least : (d : ℕ) → AtLeast 3 (Behind LeftBracket (Before (IsExpr d) RightBracket))
index_least d = bind_least 1 2 token_least (λ u. bind_least 1 1 (chain_some 6 d) (λ a. bind_least 1 0 token_least (λ u. any_least)))

pub no_index : (levels room : ℕ) {more : Lexed → Bool} {ts : List Lexed} → (OpensIndex levels room ts → ⊥) → Reads (Within room (IsIndex (InExpr levels))) more ts None ts
no_index zero room none = none_within (λ x v c h f e. h.second.first)
no_index (suc d) room {ts = ts} none = none_within (λ x v c h f e.
    let g = (index_least d).at x v h in
    let k : Some h.first.token ≡ head ts = ap (λ y. head (y ++ c)) (sym (h.parts ∙ ap (λ y. y ++ h.back) h.first.parts)) ∙ e in
    none (record { begins = begun ts h.first.token (sym k) h.first.is; roomy = record { level = omega arith; fits = omega arith } }))
  where
    begun : (us : List Lexed) (t : Lexed) → head us ≡ Some t → t.word ≡ Shows LeftBracket → BeginsWith LeftBracket us
    begun [] t e is = absurd cc
    begun (u ∷ us) t e is = record { token = u; rest = us; parts = refl; is = (let ut : u ≡ t = cc in ap (λ (l : Lexed). l.word) ut ∙ is) }

pub index_within : (levels d : ℕ) → levels ≡ suc d → {room : ℕ} {ts : List Lexed} → BeginsWith LeftBracket ts
    → Leads (λ v. Some v) (Within room (Behind LeftBracket (Before (IsExpr d) RightBracket))) never ts (Within room (IsIndex (InExpr levels))) (after 0) ts
index_within levels d s b = rw s (maybe_within b.parts (ap (may_follow 0) b.is) (λ c st. never_stops c))

-- ---- what a place is seen as

pub shape_Var : (name : List ℕ) (at : ℕ) (index : Option (Box SrcExpr Global)) → model_of_src_node (Var (roll-Spot (record { name = name; at = at; index = index }))) ≡ node_at name at (index_of index)
unfolding roll-Spot denote.Hole.Carrier.roll
shape_Var name at None = refl
shape_Var name at (Some b) = refl
