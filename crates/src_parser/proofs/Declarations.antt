-- Declarations, and programs.
use Rattle.std.proofs.Common.{◌≡◌, ℕ, Bool, true, false, List, [], ◌∷◌, ◌++◌, map, ◌⊎◌, inl, inr, refl, sym, ap, subst, ◌∙◌, append_assoc}
use Rattle.std.proofs.lemmas.List.{append-nil}
use Rattle.grammar.specs.Reading.{Return, Bind, Many, none, some, ListOf, Stops, never, Reads, Leads}
use Rattle.grammar.proofs.Steps.{leads_as}
use Rattle.grammar.proofs.Passing.{There, there_bind, there_return, there_maybe, Apart, Starts, starts_inner, leads_made, then_leads, returned}
use Rattle.grammar.proofs.Repeats.{Repeated}
use Rattle.src_model.specs.declared.program.Var.{Var as Declared}
use Rattle.src_model.specs.Grammar.{Lexed, Word, DeclsBehind, IsDecl, IsDecls, IsLines, IsBody}
use Rattle.grammar.specs.declared.words.Lexed.{Lexed as LexedOf}
use Rattle.grammar.specs.declared.words.Word.TheVariants.{Name, Symbol as Shows}
use Rattle.src_model.specs.declared.words.Symbol.TheVariants.{Comma, Semicolon, LeftBracket, Var, If, Else, While, For}
use Rattle.src_model.specs.Written.{StmtModel, ProgramModel}
use Rattle.grammar.specs.Tokens.{Behind, Before}
use Rattle.src_parser.specs.Inner.Steps.{bracket_word, decls_word, var_word, act_word, acts_word, text_word, after_decl, after_decls, after_lines, after_acts, after_text}
use Rattle.grammar.proofs.Tokens.{Shown, begun, there_name}
use Rattle.src_parser.proofs.Statements.{acted}

-- a sign in front and one behind, put together from either side
pub from_either_side : {S K V : Type 0} {s z : S} {X : List (LexedOf S K) → V → Type 0} {more : LexedOf S K → Bool} {ts : List (LexedOf S K)} → Leads (λ v. v) (Before (Behind s X) z) more ts (Behind s (Before X z)) more ts
from_either_side = leads_as
    (λ x w b. record {
      front = b.first.front;
      back = b.first.back ++ b.back;
      value = b.first.value;
      parts = b.parts ∙ ap (λ y. y ++ b.back) b.first.parts ∙ append_assoc b.first.front b.first.back b.back;
      first = b.first.first;
      second = record { front = b.first.back; back = b.back; value = b.value; parts = refl; first = b.first.second; second = b.second };
    })
    (λ x w c h st b. record {
      front = b.front ++ b.second.front;
      back = b.second.back;
      value = b.second.value;
      parts = b.parts ∙ ap (λ y. b.front ++ y) b.second.parts ∙ sym (append_assoc b.front b.second.front b.second.back);
      first = record { front = b.front; back = b.second.front; value = b.value; parts = refl; first = b.first; second = b.second.first };
      second = b.second.second;
    })
    (λ c st. st)

pub there_decl : There IsDecl
there_decl = there_bind there_name (λ i. there_bind there_maybe (λ l. there_return))

-- ---- lists that may be empty

opens_or_empty : {V W : Type 0} {begins : Lexed → Type 0} {X : List Lexed → V → Type 0} {last : W} {add : V → W → W} → Starts begins X → (x : List Lexed) (w : W) → Many X last add x w → (x ≡ []) ⊎ ((t : Lexed) × (rest : List Lexed) × (x ≡ t ∷ rest) × begins t)
opens_or_empty s x w none = inl refl
opens_or_empty s x w (some {us = us} {b = b} {zs = zs} p q) = (let f = s.at us b p in inr (f.0, f.1 ++ zs, ap (λ y. y ++ zs) f.2, f.3))

-- ---- a line

bracket_wider : (w : Word) → decls_word w ≡ false → bracket_word w ≡ false
bracket_wider (Shows Comma) e = refl
bracket_wider (Shows LeftBracket) e = absurd cc
bracket_wider _ e = refl

pub listed : Repeated (Shown Comma) (Behind Comma IsDecl) after_decl after_decls
listed = record { starts = begun; opens = λ t h. ap decls_word h; apart = λ t h. ap bracket_word h; wider = λ t e. bracket_wider t.word e }

map_same : (xs : List Declared) → map (λ v. v) xs ≡ xs
map_same [] = refl
map_same (x ∷ xs) = ap (λ ys. x ∷ ys) (map_same xs)

pub others_start : {first : Declared} {xs : List Declared} {ts : List Lexed} → xs ≡ first ∷ [] → Leads (λ vs. map (λ v. v) xs ++ vs) (ListOf (Behind Comma IsDecl)) after_decls ts (DeclsBehind first) after_decls ts
others_start {first = first} {ts = ts} e = subst (λ xs. Leads (λ vs. map (λ v. v) xs ++ vs) (ListOf (Behind Comma IsDecl)) after_decls ts (DeclsBehind first) after_decls ts) (sym e) returned

pub others_end : {first : Declared} {xs : List Declared} {ts rest : List Lexed} → Reads (DeclsBehind first) after_decls ts (map (λ v. v) xs) rest → Reads (DeclsBehind first) after_decls ts xs rest
others_end {first = first} {xs = xs} {ts = ts} {rest = rest} r = subst (λ (y : List Declared). Reads (DeclsBehind first) after_decls ts y rest) (map_same xs) r

pub line_apart : {more : Lexed → Bool} → Apart after_decl (λ first. Before (DeclsBehind first) Semicolon) more
line_apart = record {
  stops = λ a y w c b st. elim (opens_or_empty begun b.first.front b.first.value b.first.first) [
    | inl e ↦
        let parts : y ≡ b.second.first.token ∷ b.second.back = b.parts ∙ ap (λ z. z ++ b.back) (b.first.parts ∙ ap (λ z. z ++ b.first.back) e ∙ b.first.second.empty) ∙ b.second.parts ∙ ap (λ z. z ++ b.second.back) b.second.first.parts in
        subst (λ z. Stops after_decl (z ++ c)) (sym parts) (ap bracket_word b.second.first.is)
    | inr f ↦
        let parts : y ≡ f.0 ∷ ((f.1 ++ b.first.back) ++ b.back) = b.parts ∙ ap (λ z. z ++ b.back) (b.first.parts ∙ ap (λ z. z ++ b.first.back) f.2) in
        subst (λ z. Stops after_decl (z ++ c)) (sym parts) (ap bracket_word f.3)
  ];
}

-- ---- lines

pub lined : Repeated (Shown Var) IsDecls never after_lines
lined = record { starts = starts_inner begun; opens = λ t h. ap var_word h; apart = λ t h. refl; wider = λ t e. refl }

pub lines_on : (vars line : List Declared) {now : List Declared} {ts m us : List Lexed} → now ≡ vars ++ line → Leads (λ vs. line ++ vs) IsLines after_lines m IsLines after_lines ts
    → Leads (λ vs. vars ++ vs) IsLines after_lines ts IsLines after_lines us → Leads (λ vs. now ++ vs) IsLines after_lines m IsLines after_lines us
lines_on vars line e p q = leads_made (λ vs. sym (append_assoc vars line vs) ∙ ap (λ y. y ++ vs) (sym e)) (then_leads p q)

pub lines_end : {vars : List Declared} {ts us : List Lexed} → Leads (λ vs. vars ++ vs) IsLines after_lines ts IsLines after_lines us → Reads IsLines after_lines ts [] ts → Reads IsLines after_lines us vars ts
lines_end {vars = vars} {ts = ts} {us = us} q r = subst (λ (y : List Declared). Reads IsLines after_lines us y ts) (append-nil vars) (q.reads [] ts r)

-- ---- programs

var_wider : (w : Word) → text_word w ≡ false → var_word w ≡ false
var_wider (Shows Var) e = absurd cc
var_wider _ e = refl

acts_wider : (w : Word) → text_word w ≡ false → acts_word w ≡ false
acts_wider (Shows Var) e = refl
acts_wider (Shows If) e = absurd cc
acts_wider (Shows Else) e = absurd cc
acts_wider (Shows While) e = absurd cc
acts_wider (Shows For) e = absurd cc
acts_wider (Name n) e = absurd cc
acts_wider _ e = refl

act_no_var : (w : Word) → act_word w ≡ true → var_word w ≡ false
act_no_var (Shows Var) e = absurd cc
act_no_var _ e = refl

narrow : {more more_s : Lexed → Bool} → ((t : Lexed) → more_s t ≡ false → more t ≡ false) → (c : List Lexed) → Stops more_s c → Stops more c
narrow wider [] st = tt
narrow wider (t ∷ c) st = wider t st

pub body_leads : (levels : ℕ) {ts : List Lexed} → Leads (λ v. v) (IsBody levels) after_acts ts (IsBody levels) after_text ts
body_leads levels = leads_as (λ x w r. r) (λ x w c e st r. r) (narrow (λ t e. acts_wider t.word e))

pub text_apart : {make : List Declared → List StmtModel → ProgramModel} → Apart after_lines (λ vars. Bind (IsBody 64) (λ _ body. Return (make vars body))) after_text
text_apart = record {
  stops = λ a y w c b st. elim (opens_or_empty (acted 64).starts b.front b.value b.first) [
    | inl e ↦
        let parts : y ≡ [] = b.parts ∙ ap (λ z. z ++ b.back) e ∙ b.second.empty in
        subst (λ z. Stops after_lines (z ++ c)) (sym parts) (narrow (λ t e. var_wider t.word e) c st)
    | inr f ↦
        let parts : y ≡ f.0 ∷ (f.1 ++ b.back) = b.parts ∙ ap (λ z. z ++ b.back) f.2 in
        subst (λ z. Stops after_lines (z ++ c)) (sym parts) (act_no_var f.0.word f.3)
  ];
}
