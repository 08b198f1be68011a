-- The words that tokens stand for.
use Rattle.std.specs.Prelude.{ℕ, List, codes, Option, Some, None, if◌then◌else◌}
use Rattle.std.specs.Str.{bytes_eq}
use Rattle.rec_bits.specs.declared.operator.Op2.{Op2}
use Rattle.rec_bits.specs.declared.operator.Op2.TheVariants.{Add, Sub, Mul, And, Or, Xor, Shl, Shr, Sar}
use Rattle.lexing.specs.declared.token.Token.{Token}
use Rattle.lexing.specs.Words.{or_word, lexed_all}
use Rattle.src_model.specs.declared.program.Cmp.{Cmp}
use Rattle.src_model.specs.declared.program.Cmp.TheVariants.{Eq, Ne, Lt, Le, Gt, Ge, Slt, Sle, Sgt, Sge}
use Rattle.src_model.specs.Grammar.{Lexed, Word}
use Rattle.grammar.specs.declared.words.Word.TheVariants.{Symbol as Shows, Key as Keyed, Other}
use Rattle.src_model.specs.declared.words.Key.TheVariants.{Operator as Operates, Compare as Compares, Call as Calls}
use Rattle.src_model.specs.declared.words.Call.{Call}
use Rattle.src_model.specs.declared.words.Call.TheVariants.{Zext, Sext, Low}
use Rattle.src_model.specs.declared.words.Symbol.{Symbol}
use Rattle.src_model.specs.declared.words.Symbol.TheVariants.{Equals, Semicolon, Comma, Tilde, LeftParen, RightParen, LeftBrace, RightBrace, LeftBracket, RightBracket, Var, If, Else, While, For, To}

-- the signs that compare
abbrev pub compare_of : List ℕ → Option Cmp
compare_of text =
    if bytes_eq text (codes "==") then Some Eq else (
    if bytes_eq text (codes "!=") then Some Ne else (
    if bytes_eq text (codes "<") then Some Lt else (
    if bytes_eq text (codes "<=") then Some Le else (
    if bytes_eq text (codes ">") then Some Gt else (
    if bytes_eq text (codes ">=") then Some Ge else (
    None))))))

-- the reserved words that compare
abbrev pub signed_of : List ℕ → Option Cmp
signed_of text =
    if bytes_eq text (codes "slt") then Some Slt else (
    if bytes_eq text (codes "sle") then Some Sle else (
    if bytes_eq text (codes "sgt") then Some Sgt else (
    if bytes_eq text (codes "sge") then Some Sge else (
    None))))

-- the operators
abbrev pub operator_of : List ℕ → Option Op2
operator_of text =
    if bytes_eq text (codes "|") then Some Or else (
    if bytes_eq text (codes "^") then Some Xor else (
    if bytes_eq text (codes "&") then Some And else (
    if bytes_eq text (codes "<<") then Some Shl else (
    if bytes_eq text (codes ">>") then Some Shr else (
    if bytes_eq text (codes ">>>") then Some Sar else (
    if bytes_eq text (codes "+") then Some Add else (
    if bytes_eq text (codes "-") then Some Sub else (
    if bytes_eq text (codes "*") then Some Mul else (
    None)))))))))

-- the reserved words that call
abbrev pub call_of : List ℕ → Option Call
call_of text =
    if bytes_eq text (codes "zext") then Some Zext else (
    if bytes_eq text (codes "sext") then Some Sext else (
    if bytes_eq text (codes "low") then Some Low else (
    None)))

-- the other reserved words
abbrev pub symbol_of : List ℕ → Option Symbol
symbol_of text =
    if bytes_eq text (codes "var") then Some Var else (
    if bytes_eq text (codes "if") then Some If else (
    if bytes_eq text (codes "else") then Some Else else (
    if bytes_eq text (codes "while") then Some While else (
    if bytes_eq text (codes "for") then Some For else (
    if bytes_eq text (codes "to") then Some To else (
    None))))))

-- the other signs
abbrev pub sign_of : List ℕ → Option Symbol
sign_of text =
    if bytes_eq text (codes "=") then Some Equals else (
    if bytes_eq text (codes ";") then Some Semicolon else (
    if bytes_eq text (codes ",") then Some Comma else (
    if bytes_eq text (codes "~") then Some Tilde else (
    if bytes_eq text (codes "(") then Some LeftParen else (
    if bytes_eq text (codes ")") then Some RightParen else (
    if bytes_eq text (codes "{") then Some LeftBrace else (
    if bytes_eq text (codes "}") then Some RightBrace else (
    if bytes_eq text (codes "[") then Some LeftBracket else (
    if bytes_eq text (codes "]") then Some RightBracket else (
    None))))))))))

abbrev pub reserved_of : List ℕ → Word
reserved_of text =
    or_word (λ cmp. Keyed (Compares cmp)) (signed_of text) (
    or_word (λ call. Keyed (Calls call)) (call_of text) (
    or_word Shows (symbol_of text) Other))

abbrev pub sign_word : List ℕ → Word
sign_word text =
    or_word (λ cmp. Keyed (Compares cmp)) (compare_of text) (
    or_word (λ op. Keyed (Operates op)) (operator_of text) (
    or_word Shows (sign_of text) Other))

-- all tokens of a program's text, with the words that they are
abbrev pub src_words : List ℕ → List Token → List Lexed
src_words = lexed_all reserved_of sign_word
