-- Statements.
use Rattle.std.proofs.Common.{◌≡◌, ℕ, zero, suc, ◌≤◌, Bool, true, false, List, [], ◌∷◌, ◌++◌, length, map, Option, Some, None, Box, IsTrue, ◌↔◌, refl, sym, ap, subst, ◌∙◌, arith}
use Rattle.std.specs.declared.alloc.Global.{Global}
use Rattle.std.specs.declared.vec.Vec.{Vec}
use Rattle.rec_bits.proofs.Options.{same_Some}
use Rattle.grammar.specs.declared.stop.ParseStop.TheVariants.{At}
use Rattle.grammar.specs.Reading.{Bind, without, head, never, Reads, FailsAs, Leads}
use Rattle.grammar.proofs.Steps.{leads_as, never_stops}
use Rattle.grammar.proofs.Passing.{There, there_bind, there_return, there_token, there_many, Apart, Starts, starts_bind, starts_apart, maybe_leads, maybe_none, then_leads, same_leads}
use Rattle.grammar.proofs.Repeats.{Repeated}
use Rattle.src_model.specs.declared.program.Cmp.{Cmp}
use Rattle.src_model.specs.declared.program.Cmp.TheVariants.{Eq}
use Rattle.src_model.specs.declared.program.SrcExpr.{SrcExpr}
use Rattle.src_model.specs.declared.program.SrcTest.{SrcTest}
use Rattle.src_model.specs.declared.program.Spot.{roll-Spot}
use Rattle.src_model.specs.declared.program.Stmt.{Stmt, If as IfMade, While as WhileMade, For as ForMade}
use Rattle.src_model.specs.Grammar.{Lexed, Word, IsIndex, IsInner, IsOuter, IsCmp, IsBlock, IsBody, IsStmt, StmtBehind}
use Rattle.grammar.specs.declared.words.Word.TheVariants.{Name, Symbol as Shows, Key as Keyed}
use Rattle.src_model.specs.declared.words.Key.TheVariants.{Compare as Compares}
use Rattle.src_model.specs.declared.words.Symbol.TheVariants.{LeftBrace, RightBrace, LeftBracket, RightBracket, If, Else, While, For}
use Rattle.src_model.specs.Written.{StmtModel, choice, while, count, model_of_stmt, stmts_of, else_of, model_of_src_test, model_of_spot, index_of}
use Rattle.grammar.specs.Tokens.{Behind, Before, IsNothing, BeginsWith, BeginsSo}
use Rattle.src_model.proofs.Views.{stmt_If, stmt_While, stmt_For, else_stmts}
use Rattle.src_parser.specs.declared.statement.Compound.{Compound}
use Rattle.src_parser.specs.declared.statement.Compound.TheVariants.{If as Chooses, While as Repeats, For as Counts}
use Rattle.src_parser.specs.Inner.Steps.{OpensBracket, CompoundBehind, compound_of, act_word, cmp_of, else_word, acts_word, may_follow, after, after_else, after_acts, others_of}
use Rattle.grammar.proofs.Tokens.{Shown, begun, there_behind, there_before, there_word, word_leads, word_ended, word_missed}
use Rattle.src_parser.proofs.Expressions.{short_chain}

pub there_outer : (d : ℕ) → There (IsOuter d)
there_outer d = (let s = short_chain 6 d in let f : length s.text ≤ 1 = s.fits in record { text = s.text; value = s.value; is = record { text = s.is; fits = omega arith } })

pub there_cmp : There IsCmp
there_cmp = there_token (record { word = Keyed (Compares Eq); at = 0 }) Eq refl

pub is_cmp : (w : Word) (cmp : Cmp) → cmp_of w ≡ Some cmp → w ≡ Keyed (Compares cmp)
is_cmp (Keyed (Compares c)) cmp e = (let k : c ≡ cmp = cc in ap (λ (x : Cmp). let w : Word = Keyed (Compares x) in w) k)
is_cmp _ cmp e = absurd cc

pub cmp_apart : {V W : Type 0} {B : V → List Lexed → _ → List Lexed → W → Type 0} {more : Lexed → Bool} → Apart (after 6) (λ a. Bind IsCmp (B a)) more
cmp_apart = starts_apart {begins = λ t. (c : _) × (t.word ≡ Keyed (Compares c))} (λ a. starts_bind (λ t u h. (u, h))) (λ t h. ap (may_follow 6) h.1)

-- ---- the index of an assigned place

pub outer_within : (levels d : ℕ) → levels ≡ suc d → {ts : List Lexed} → BeginsWith LeftBracket ts → Leads (λ v. Some v) (Behind LeftBracket (Before (IsOuter d) RightBracket)) never ts (IsIndex (IsInner levels)) (after 0) ts
outer_within levels d s b = rw s (maybe_leads b.parts (ap (may_follow 0) b.is) (λ c st. never_stops c))

pub no_outer : (levels : ℕ) {ts : List Lexed} → (OpensBracket levels ts → ⊥) → Reads (IsIndex (IsInner levels)) (after 0) ts None ts
no_outer zero none = maybe_none {begins = λ t. ⊥} (record { at = λ x v r. absurd r.second.first }) (λ t h b. b)
no_outer (suc d) {ts = ts} none = maybe_none begun (λ t h is. none (record { begins = opened ts t h is; level = omega arith }))
  where
    opened : (us : List Lexed) (t : Lexed) → head us ≡ Some t → t.word ≡ Shows LeftBracket → BeginsWith LeftBracket us
    opened [] t e is = absurd cc
    opened (u ∷ us) t e is = record { token = u; rest = us; parts = refl; is = (let ut : u ≡ t = cc in ap (λ (l : Lexed). l.word) ut ∙ is) }

-- ---- blocks

pub block_leads : (levels d : ℕ) → levels ≡ suc d → {ts : List Lexed} → Leads (λ v. v) (Behind LeftBrace (Before (IsBody d) RightBrace)) never ts (IsBlock levels) never ts
unfolding IsBlock
block_leads levels d s = rw s same_leads

pub block_starts : (levels : ℕ) → Starts (Shown LeftBrace) (IsBlock levels)
unfolding IsBlock
block_starts zero = record { at = λ x v r. absurd r }
block_starts (suc d) = begun

pub there_block : (levels : ℕ) → 1 ≤ levels → There (IsBlock levels)
unfolding IsBlock
there_block zero some = absurd (omega arith)
there_block (suc d) some = there_behind (there_before there_many)

-- ---- statements one after the other

begins_stmt : (levels : ℕ) (B : List Lexed → List StmtModel → Type 0) (w : Word) (at : ℕ) (x : List Lexed) (v : StmtModel) → StmtBehind levels B w at x v → act_word w ≡ true
begins_stmt levels B (Name n) at x v h = refl
begins_stmt levels B (Shows If) at x v h = refl
begins_stmt levels B (Shows While) at x v h = refl
begins_stmt levels B (Shows For) at x v h = refl
begins_stmt levels B _ at x v h = absurd h

act_opens : (w : Word) → act_word w ≡ true → acts_word w ≡ true
act_opens (Shows Else) e = refl
act_opens (Shows If) e = refl
act_opens (Shows While) e = refl
act_opens (Shows For) e = refl
act_opens (Name n) e = refl
act_opens _ e = absurd cc

act_ends : (w : Word) → act_word w ≡ true → else_word w ≡ false
act_ends (Shows Else) e = absurd cc
act_ends _ e = refl

acts_wider : (w : Word) → acts_word w ≡ false → else_word w ≡ false
acts_wider (Shows Else) e = absurd cc
acts_wider _ e = refl

pub acted : (levels : ℕ) → Repeated (λ t. act_word t.word ≡ true) (IsStmt levels) after_else after_acts
acted levels = record {
  starts = record { at = λ x v r. (r.first.token, r.back, r.parts ∙ ap (λ y. y ++ r.back) r.first.parts, subst (λ (t : Lexed). act_word t.word ≡ true) r.first.is (begins_stmt levels (IsBlock levels) r.value.word r.value.at r.back v r.second)) };
  opens = λ t b. act_opens t.word b;
  apart = λ t b. act_ends t.word b;
  wider = λ t e. acts_wider t.word e;
}

pub not_so : {b : Bool} {test : Word → Bool} {ts : List Lexed} → (IsTrue b ↔ BeginsSo test ts) → b ≡ false → (t : Lexed) → head ts ≡ Some t → test t.word ≡ true → ⊥
not_so {b = b} {test = test} {ts = ts} f e t h is = absurd (clash (f.1 (opened ts h)))
  where
    clash : IsTrue b → ⊥
    clash g = (let k : b ≡ true = g in cc)

    opened : (us : List Lexed) → head us ≡ Some t → BeginsSo test us
    opened [] e2 = absurd cc
    opened (u ∷ us) e2 = record { token = u; rest = us; parts = refl; is = (let ut : u ≡ t = cc in ap (λ (l : Lexed). test l.word) ut ∙ is) }

-- ---- by the first word

compound_to : (levels : ℕ) (B : List Lexed → List StmtModel → Type 0) (w : Word) (c : Compound) (at : ℕ) (x : List Lexed) (v : StmtModel) → compound_of w ≡ Some c → CompoundBehind levels B c x v → StmtBehind levels B w at x v
compound_to levels B (Shows If) c at x v e h = subst (λ c. CompoundBehind levels B c x v) (same_Some _ _ (sym e)) h
compound_to levels B (Shows While) c at x v e h = subst (λ c. CompoundBehind levels B c x v) (same_Some _ _ (sym e)) h
compound_to levels B (Shows For) c at x v e h = subst (λ c. CompoundBehind levels B c x v) (same_Some _ _ (sym e)) h
compound_to levels B _ c at x v e h = absurd cc

compound_from : (levels : ℕ) (B : List Lexed → List StmtModel → Type 0) (w : Word) (c : Compound) (at : ℕ) (x : List Lexed) (v : StmtModel) → compound_of w ≡ Some c → StmtBehind levels B w at x v → CompoundBehind levels B c x v
compound_from levels B (Shows If) c at x v e h = subst (λ c. CompoundBehind levels B c x v) (same_Some _ _ e) h
compound_from levels B (Shows While) c at x v e h = subst (λ c. CompoundBehind levels B c x v) (same_Some _ _ e) h
compound_from levels B (Shows For) c at x v e h = subst (λ c. CompoundBehind levels B c x v) (same_Some _ _ e) h
compound_from levels B _ c at x v e h = absurd cc

pub compound_leads : (levels : ℕ) {more : Lexed → Bool} {ts rest : List Lexed} {t : Lexed} {c : Compound} → ts ≡ t ∷ rest → compound_of t.word ≡ Some c → Leads (λ v. v) (CompoundBehind levels (IsBlock levels) c) more rest (IsStmt levels) more ts
compound_leads levels {t = t} {c = c} parts is = then_leads (leads_as
    (λ x w r. compound_to levels (IsBlock levels) t.word c t.at x w is r)
    (λ x w d e st r. compound_from levels (IsBlock levels) t.word c t.at x w is r)
    (λ d st. st)) (word_leads (StmtBehind levels (IsBlock levels)) parts refl)

pub there_act : (levels : ℕ) → There (IsStmt levels)
there_act levels = there_word (StmtBehind levels (IsBlock levels)) (Name []) 0 (there_bind (there_bind (record { text = []; value = None; is = without refl refl }) (λ o. there_return)) (λ p. there_bind (there_behind (there_before (there_outer levels))) (λ v. there_return)))

no_block : (c : Compound) (x : List Lexed) (v : StmtModel) → CompoundBehind 0 IsNothing c x v → ⊥
no_block Chooses x v h = h.second.first
no_block Repeats x v h = h.second.first
no_block Counts x v h = h.second.second.second.first

pub no_level : (levels : ℕ) → levels ≡ 0 → {more : Lexed → Bool} {ts rest : List Lexed} {t : Lexed} {c : Compound} → ts ≡ t ∷ rest → compound_of t.word ≡ Some c → FailsAs (IsStmt levels) more ts (At (length ts))
unfolding IsBlock
no_level levels z {t = t} {c = c} parts is = rw z (word_missed (StmtBehind 0 IsNothing) (there_act 0) parts (λ x v h. no_block c x v (compound_from 0 IsNothing t.word c t.at x v is h)))

no_stmt : (levels : ℕ) (B : List Lexed → List StmtModel → Type 0) (w : Word) → compound_of w ≡ None → ((n : List ℕ) → w ≡ Name n → ⊥) → (at : ℕ) (x : List Lexed) (v : StmtModel) → StmtBehind levels B w at x v → ⊥
no_stmt levels B (Name n) e a at x v h = a n refl
no_stmt levels B (Shows If) e a at x v h = absurd cc
no_stmt levels B (Shows While) e a at x v h = absurd cc
no_stmt levels B (Shows For) e a at x v h = absurd cc
no_stmt levels B _ e a at x v h = h

pub act_missed : (levels : ℕ) {more : Lexed → Bool} {ts rest : List Lexed} {t : Lexed} → ts ≡ t ∷ rest → compound_of t.word ≡ None → ((n : List ℕ) → t.word ≡ Name n → ⊥) → FailsAs (IsStmt levels) more ts (At (length ts))
act_missed levels {t = t} parts e a = word_missed (StmtBehind levels (IsBlock levels)) (there_act levels) parts (λ x v h. no_stmt levels (IsBlock levels) t.word e a t.at x v h)

pub act_ended : (levels : ℕ) {more : Lexed → Bool} {ts : List Lexed} → ts ≡ [] → FailsAs (IsStmt levels) more ts (At 0)
act_ended levels e = word_ended (StmtBehind levels (IsBlock levels)) (there_act levels) e

pub name_leads : (levels : ℕ) {more : Lexed → Bool} {ts rest : List Lexed} {t : Lexed} {n : List ℕ} → ts ≡ t ∷ rest → t.word ≡ Name n → Leads (λ v. v) (StmtBehind levels IsNothing (Name n) t.at) more rest (IsStmt levels) more ts
name_leads levels parts is = word_leads (StmtBehind levels (IsBlock levels)) parts is

-- ---- what statements are seen as

pub place_Spot : (name : List ℕ) (at : ℕ) (index : Option (Box SrcExpr Global)) → model_of_spot (roll-Spot (record { name = name; at = at; index = index })) ≡ record { name = name; at = at; index = index_of index }
unfolding roll-Spot denote.Hole.Carrier.roll
place_Spot name at None = refl
place_Spot name at (Some b) = refl

-- an else part as it is held is that of the code
else_same : (o : Option (Vec Stmt Global)) → else_stmts o ≡ else_of (others_of o)
else_same None = refl
else_same (Some v) = refl

stmt_chosen : (test : SrcTest) (v : Vec Stmt Global) (o : Option (Vec Stmt Global)) → model_of_stmt (IfMade test v o) ≡ choice (model_of_src_test test) (stmts_of (map model_of_stmt v.items)) (else_of (others_of o))
stmt_chosen test v o = stmt_If test v o ∙ ap (λ b. choice (model_of_src_test test) (stmts_of (map model_of_stmt v.items)) b) (else_same o)

pub while_reads : {R : List Lexed → StmtModel → Type 0} {more : Lexed → Bool} {ts rest : List Lexed} (test : SrcTest) (v : Vec Stmt Global) → Reads R more ts (while (model_of_src_test test) (stmts_of (map model_of_stmt v.items))) rest → Reads R more ts (model_of_stmt (WhileMade test v)) rest
while_reads {R = R} {more = more} {ts = ts} {rest = rest} test v r = subst (λ (a : StmtModel). Reads R more ts a rest) (sym (stmt_While test v)) r

pub for_reads : {R : List Lexed → StmtModel → Type 0} {more : Lexed → Bool} {ts rest : List Lexed} (counter : List ℕ) (at from to : ℕ) (v : Vec Stmt Global) → Reads R more ts (count counter at from to (stmts_of (map model_of_stmt v.items))) rest → Reads R more ts (model_of_stmt (ForMade counter at from to v)) rest
for_reads {R = R} {more = more} {ts = ts} {rest = rest} counter at from to v r = subst (λ (a : StmtModel). Reads R more ts a rest) (sym (stmt_For counter at from to v)) r

pub if_reads : {R : List Lexed → StmtModel → Type 0} {more : Lexed → Bool} {ts rest : List Lexed} (test : SrcTest) (v : Vec Stmt Global) (o : Option (Vec Stmt Global)) → Reads R more ts (choice (model_of_src_test test) (stmts_of (map model_of_stmt v.items)) (else_of (others_of o))) rest → Reads R more ts (model_of_stmt (IfMade test v o)) rest
if_reads {R = R} {more = more} {ts = ts} {rest = rest} test v o r = subst (λ (a : StmtModel). Reads R more ts a rest) (sym (stmt_chosen test v o)) r

-- the same of a test and statements that were kept together
pub if_kept : {R : List Lexed → StmtModel → Type 0} {more : Lexed → Bool} {ts rest : List Lexed} (test : SrcTest) (v : Vec Stmt Global) (o : Option (Vec Stmt Global)) {p : SrcTest × Vec Stmt Global} → p ≡ (test, v) → Reads R more ts (choice (model_of_src_test test) (stmts_of (map model_of_stmt v.items)) (else_of (others_of o))) rest → Reads R more ts (model_of_stmt (IfMade p.0 p.1 o)) rest
if_kept {R = R} {more = more} {ts = ts} {rest = rest} test v o e r = subst (λ p. Reads R more ts (model_of_stmt (IfMade p.0 p.1 o)) rest) (sym e) (if_reads test v o r)
