-- The names that a program text declares are names.
use Rattle.std.proofs.Common.{◌≡◌, ◌≤◌, ℕ, zero, suc, Bool, true, List, [], ◌∷◌, ◌++◌, Option, Some, None, length, take, drop, refl, sym, subst, arith}
use Rattle.std.specs.List.{AllByRecursion}
use Rattle.std.proofs.lemmas.Bool.{le-leb}
use Rattle.std.proofs.lemmas.List.{length-take-le}
use Rattle.std.proofs.lemmas.List.Elements.{All-weaker, All-map, recursion_from_All}
use Rattle.std.proofs.lemmas.List.Sums.{list_all-from_AllPass}
use Rattle.rec_bits.proofs.Lists.{all_append}
use Rattle.grammar.specs.declared.words.Ident.{Ident}
use Rattle.grammar.specs.declared.words.Word.TheVariants.{Name as Named, Symbol as Shows, Key as Keyed, Other}
use Rattle.grammar.specs.Reading.{Bind, ListOf, none, some}
use Rattle.grammar.specs.Tokens.{IsName, Behind}
use Rattle.lexing.specs.declared.token.Kind.{Kind}
use Rattle.lexing.specs.declared.token.Kind.TheVariants.{Name, Reserved, Number, Sign, Bad}
use Rattle.lexing.specs.Bytes.{begins_with, is_letter, is_name_byte}
use Rattle.lexing.specs.Laws.{IsKind, IsTokenOf, IsWord}
use Rattle.lexing.specs.Words.{lexed_of, or_word, word_of}
use Rattle.lexing.proofs.TokenLaws.{are_tokens}
use Rattle.text_lines.specs.Fields.{is_name}
use Rattle.src_lexer.specs.Programs.{programs, src_tokens}
use Rattle.src_model.specs.declared.program.Var.{Var as Declared}
use Rattle.src_model.specs.declared.words.Key.TheVariants.{Operator as Operates, Compare as Compares, Call as Calls}
use Rattle.src_model.specs.declared.words.Symbol.TheVariants.{Comma}
use Rattle.src_model.specs.Grammar.{Lexed, Word, IsDecl, IsDecls, IsLines, IsProgram}
use Rattle.src_model.specs.Written.{ProgramModel}
use Rattle.src_parser.specs.Texts.{src_lexed, IsSrcText}
use Rattle.src_parser.specs.Words.{call_of, compare_of, operator_of, reserved_of, sign_of, sign_word, signed_of, symbol_of}
use Rattle.src_front.specs.Fronts.{AreNamed, IsNamed}

-- ---- bytes

begins_front : (p : ℕ → Bool) (n : ℕ) (bytes : List ℕ) → 1 ≤ n → begins_with p bytes ≡ true → begins_with p (take n bytes) ≡ true
begins_front p zero bytes long begins = absurd (omega (arith, long))
begins_front p (suc n) [] long begins = begins
begins_front p (suc n) (b ∷ bs) long begins = begins

-- the bytes of a word are a name
name_of_word : (n : ℕ) (bytes : List ℕ) → 1 ≤ n → IsWord n bytes → is_name (take n bytes) ≡ true
unfolding is_name
name_of_word n bytes long is =
    let begins = begins_front is_letter n bytes long is.begins in
    let short = le-leb (length (take n bytes)) 32 (omega (arith, length-take-le n bytes is.run.within, is.short)) in
    let named = list_all-from_AllPass is_name_byte (take n bytes) is.run.all in
    rw (begins, short, named) refl

-- ---- words

-- a name is one
abbrev NamedWord : Word → Type 0
NamedWord (Named name) = is_name name ≡ true
NamedWord _ = Unit {0}

abbrev NamedToken : Lexed → Type 0
NamedToken token = NamedWord token.word

abbrev NamedTokens : List Lexed → Type 0
NamedTokens = AllByRecursion NamedToken

named_else : {A : Type 0} (make : A → Word) → ((a : A) → NamedWord (make a)) → (found : Option A) (next : Word) → NamedWord next → NamedWord (or_word make found next)
named_else make each None next named = named
named_else make each (Some a) next named = each a

named_reserved : (text : List ℕ) → NamedWord (reserved_of text)
named_reserved text =
    let symbols = or_word Shows (symbol_of text) Other in
    let calls = or_word (λ call. Keyed (Calls call)) (call_of text) symbols in
    named_else (λ cmp. Keyed (Compares cmp)) (λ cmp. tt) (signed_of text) calls
    (named_else (λ call. Keyed (Calls call)) (λ call. tt) (call_of text) symbols (named_else Shows (λ symbol. tt) (symbol_of text) Other tt))

named_sign : (text : List ℕ) → NamedWord (sign_word text)
named_sign text =
    let symbols = or_word Shows (sign_of text) Other in
    let operators = or_word (λ op. Keyed (Operates op)) (operator_of text) symbols in
    named_else (λ cmp. Keyed (Compares cmp)) (λ cmp. tt) (compare_of text) operators
    (named_else (λ op. Keyed (Operates op)) (λ op. tt) (operator_of text) symbols (named_else Shows (λ symbol. tt) (sign_of text) Other tt))

named_word : (kind : Kind) (n : ℕ) (bytes : List ℕ) → 1 ≤ n → IsKind programs kind n bytes → NamedWord (word_of reserved_of sign_word kind (take n bytes))
named_word Name n bytes long is = name_of_word n bytes long is.0
named_word Reserved n bytes long is = named_reserved (take n bytes)
named_word Number n bytes long is = tt
named_word Sign n bytes long is = named_sign (take n bytes)
named_word Bad n bytes long is = tt

named_words : (bytes : List ℕ) → NamedTokens (src_lexed bytes)
named_words bytes =
    recursion_from_All NamedToken (src_lexed bytes)
    (All-map NamedToken (lexed_of reserved_of sign_word bytes) (src_tokens bytes)
    (All-weaker (IsTokenOf programs bytes) (λ token. NamedToken (lexed_of reserved_of sign_word bytes token))
    (λ token is. named_word token.kind token.len (drop token.at bytes) is.some is.kind)
    (src_tokens bytes) (are_tokens programs bytes).each))

-- ---- declarations

named_parts : (us vs : List Lexed) → NamedTokens (us ++ vs) → NamedTokens us × NamedTokens vs
named_parts [] vs named = (tt, named)
named_parts (u ∷ us) vs named = let rest = named_parts us vs named.1 in ((named.0, rest.0), rest.1)

module _ {V W : Type 0} {A : List Lexed → V → Type 0} {B : List Lexed → V → List Lexed → W → Type 0} {ts : List Lexed} {w : W} (is : Bind A B ts w) (named : NamedTokens ts) where
  named_both : NamedTokens is.front × NamedTokens is.back
  named_both = named_parts is.front is.back (subst NamedTokens is.parts named)

  named_front : NamedTokens is.front
  named_front = named_both.0

  named_back : NamedTokens is.back
  named_back = named_both.1

named_ident : (ts : List Lexed) (ident : Ident) → NamedTokens ts → IsName ts ident → is_name ident.name ≡ true
named_ident ts ident named is = subst NamedToken is.is (subst NamedTokens is.parts named).0

named_decl : (ts : List Lexed) (var : Declared) → NamedTokens ts → IsDecl ts var → IsNamed var
named_decl ts var named is =
    subst IsNamed (sym is.second.second.same) (named_ident is.front is.value (named_front is named) is.first)

named_others : (ts : List Lexed) (vars : List Declared) → NamedTokens ts → ListOf (Behind Comma IsDecl) ts vars → AreNamed vars
named_others ts vars named none = tt
named_others ts vars named (some {us = us} {b = b} {zs = zs} {w = w} is rest) =
    let both = named_parts us zs named in
    (named_decl is.back b (named_back is both.0) is.second, named_others zs w both.1 rest)

named_decls : (ts : List Lexed) (vars : List Declared) → NamedTokens ts → IsDecls ts vars → AreNamed vars
named_decls ts vars named is =
    let behind = is.second in
    let decls = behind.first in
    let first = named_decl is.first.back is.value (named_back is.first (named_front is named)) is.first.second in
    let others = named_others decls.front decls.value (named_front decls (named_front behind (named_back is named))) decls.first in
    subst AreNamed (sym behind.second.second.same) (subst AreNamed (sym decls.second.same) (first, others))

named_lines : (ts : List Lexed) (vars : List Declared) → NamedTokens ts → IsLines ts vars → AreNamed vars
named_lines ts vars named none = tt
named_lines ts vars named (some {us = us} {b = b} {zs = zs} {w = w} is rest) =
    let both = named_parts us zs named in
    all_append IsNamed b w (named_decls us b both.0 is) (named_lines zs w both.1 rest)

named_text : (ts : List Lexed) (program : ProgramModel) → NamedTokens ts → IsProgram ts program → AreNamed program.vars
named_text ts program named is =
    subst (λ (l : ProgramModel). AreNamed l.vars) (sym is.second.second.same) (named_lines is.front is.value (named_front is named) is.first)

-- the variables of a program text are named by names
pub source_names : (bytes : List ℕ) (program : ProgramModel) → IsSrcText bytes program → AreNamed program.vars
source_names bytes program text = named_text (src_lexed bytes) program (named_words bytes) text.spelled
