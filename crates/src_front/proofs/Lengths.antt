-- A program text declares no more variables than it has bytes.
use Rattle.std.proofs.Common.{◌≤◌, ℕ, List, length, ap, arith, length-append}
use Rattle.grammar.specs.Reading.{ListOf, none, some}
use Rattle.src_lexer.specs.Programs.{programs}
use Rattle.src_model.specs.declared.program.Var.{Var as Declared}
use Rattle.src_model.specs.Grammar.{Lexed, IsDecl, IsDecls, IsLines, IsProgram}
use Rattle.src_model.specs.declared.words.Symbol.TheVariants.{Comma}
use Rattle.grammar.specs.Tokens.{Behind}
use Rattle.src_model.specs.Written.{ProgramModel}
use Rattle.src_parser.specs.Texts.{src_lexed, IsSrcText}
use Rattle.src_parser.specs.Words.{reserved_of, sign_word}
use Rattle.lexing.proofs.TokenLaws.{few_words}

-- a declaration has a comma or `var` before it
behind_long : (ts : List Lexed) (v : Declared) → Behind Comma IsDecl ts v → 1 ≤ length ts
behind_long ts v i = omega (arith, ap length i.parts, length-append i.front i.back, ap length i.first.parts)

others_long : (ts : List Lexed) (vs : List Declared) → ListOf (Behind Comma IsDecl) ts vs → length vs ≤ length ts
others_long ts vs none = omega arith
others_long ts vs (some {us = us} {b = b} {zs = zs} {w = w} p q) =
    let k : length w ≤ length zs = others_long zs w q in
    omega (arith, behind_long us b p, length-append us zs)

decls_long : (ts : List Lexed) (vs : List Declared) → IsDecls ts vs → length vs ≤ length ts
decls_long ts vs t =
    let behind = t.second in
    let decls = behind.first in
    let k : length decls.value ≤ length decls.front = others_long decls.front decls.value decls.first in
    omega (
      arith,
      ap length t.parts,
      length-append t.front t.back,
      ap length t.first.parts,
      length-append t.first.front t.first.back,
      ap length t.first.first.parts,
      ap length behind.parts,
      length-append behind.front behind.back,
      ap length decls.parts,
      length-append decls.front decls.back,
      ap length decls.second.same,
      ap length behind.second.second.same,
    )

lines_long : (ts : List Lexed) (vs : List Declared) → IsLines ts vs → length vs ≤ length ts
lines_long ts vs none = omega arith
lines_long ts vs (some {us = us} {b = b} {zs = zs} {w = w} p q) =
    let k : length w ≤ length zs = lines_long zs w q in
    omega (arith, decls_long us b p, length-append us zs, length-append b w)

text_long : (ts : List Lexed) (l : ProgramModel) → IsProgram ts l → length l.vars ≤ length ts
text_long ts l t =
    let k : length t.value ≤ length t.front = lines_long t.front t.value t.first in
    omega (arith, ap length t.parts, length-append t.front t.back, ap (λ (m : ProgramModel). length m.vars) t.second.second.same)

pub few_variables : (bytes : List ℕ) (program : ProgramModel) → IsSrcText bytes program → length program.vars ≤ length bytes
few_variables bytes program text =
    omega (arith, text_long (src_lexed bytes) program text.spelled, few_words reserved_of sign_word programs bytes)
