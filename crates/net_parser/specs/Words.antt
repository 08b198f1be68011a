-- The words that tokens stand for.
use Rattle.std.specs.Prelude.{ℕ, List, codes, Option, Some, None, if◌then◌else◌}
use Rattle.std.specs.Str.{bytes_eq}
use Rattle.rec_bits.specs.declared.operator.Op1.{Op1}
use Rattle.rec_bits.specs.declared.operator.Op1.TheVariants.{Not, Neg}
use Rattle.rec_bits.specs.declared.operator.Op2.{Op2}
use Rattle.rec_bits.specs.declared.operator.Op2.TheVariants.{Add, Sub, Mul, And, Or, Xor, Shl, Shr, Sar, Eq, Ltu, Lts}
use Rattle.lexing.specs.declared.token.Token.{Token}
use Rattle.lexing.specs.Words.{or_word, lexed_all}
use Rattle.net_model.specs.Editions.{Lexed, Word, edited}
use Rattle.grammar.specs.declared.words.Word.TheVariants.{Symbol as Shows, Key as Keyed, Other}
use Rattle.net_model.specs.declared.words.Key.TheVariants.{Item, Operator as Operates}
use Rattle.net_model.specs.declared.words.ItemWord.{ItemWord}
use Rattle.net_model.specs.declared.words.ItemWord.TheVariants.{Code, Register, Memory, Net, Bus, Module, Part}
use Rattle.net_model.specs.declared.words.Operator.{Operator}
use Rattle.net_model.specs.declared.words.Operator.TheVariants.{Unary, Binary, Cat, Slice, Zext, Sext, Read, Case}
use Rattle.net_model.specs.declared.words.Symbol.{Symbol}
use Rattle.net_model.specs.declared.words.Symbol.TheVariants.{Colon, Semicolon, Comma, Equals, Dot, Hash, LeftParen, RightParen, LeftBrace, RightBrace, LeftBracket, RightBracket, Size, At, In, Out, When, Addr, Write, Else}

-- the reserved words that begin an item
abbrev pub item_of : List ℕ → Option ItemWord
item_of text =
    if bytes_eq text (codes "code") then Some Code else (
    if bytes_eq text (codes "register") then Some Register else (
    if bytes_eq text (codes "memory") then Some Memory else (
    if bytes_eq text (codes "net") then Some Net else (
    if bytes_eq text (codes "bus") then Some Bus else (
    if bytes_eq text (codes "module") then Some Module else (
    if bytes_eq text (codes "part") then Some Part else (
    None)))))))

-- the operators of one and of two operands
abbrev pub unary_of : List ℕ → Option Op1
unary_of text =
    if bytes_eq text (codes "not") then Some Not else (
    if bytes_eq text (codes "neg") then Some Neg else (
    None))

abbrev pub binary_of : List ℕ → Option Op2
binary_of text =
    if bytes_eq text (codes "add") then Some Add else (
    if bytes_eq text (codes "sub") then Some Sub else (
    if bytes_eq text (codes "mul") then Some Mul else (
    if bytes_eq text (codes "and") then Some And else (
    if bytes_eq text (codes "or") then Some Or else (
    if bytes_eq text (codes "xor") then Some Xor else (
    if bytes_eq text (codes "shl") then Some Shl else (
    if bytes_eq text (codes "shr") then Some Shr else (
    if bytes_eq text (codes "sar") then Some Sar else (
    if bytes_eq text (codes "eq") then Some Eq else (
    if bytes_eq text (codes "ltu") then Some Ltu else (
    if bytes_eq text (codes "lts") then Some Lts else (
    None))))))))))))

-- the other reserved words that begin an expression
abbrev pub form_of : List ℕ → Option Operator
form_of text =
    if bytes_eq text (codes "cat") then Some Cat else (
    if bytes_eq text (codes "slice") then Some Slice else (
    if bytes_eq text (codes "zext") then Some Zext else (
    if bytes_eq text (codes "sext") then Some Sext else (
    if bytes_eq text (codes "read") then Some Read else (
    if bytes_eq text (codes "case") then Some Case else (
    None))))))

-- the other reserved words
abbrev pub symbol_of : List ℕ → Option Symbol
symbol_of text =
    if bytes_eq text (codes "size") then Some Size else (
    if bytes_eq text (codes "at") then Some At else (
    if bytes_eq text (codes "in") then Some In else (
    if bytes_eq text (codes "out") then Some Out else (
    if bytes_eq text (codes "when") then Some When else (
    if bytes_eq text (codes "addr") then Some Addr else (
    if bytes_eq text (codes "write") then Some Write else (
    if bytes_eq text (codes "else") then Some Else else (
    None))))))))

-- the signs
abbrev pub sign_of : List ℕ → Option Symbol
sign_of text =
    if bytes_eq text (codes ":") then Some Colon else (
    if bytes_eq text (codes ";") then Some Semicolon else (
    if bytes_eq text (codes ",") then Some Comma else (
    if bytes_eq text (codes "=") then Some Equals else (
    if bytes_eq text (codes ".") then Some Dot else (
    if bytes_eq text (codes "#") then Some Hash else (
    if bytes_eq text (codes "(") then Some LeftParen else (
    if bytes_eq text (codes ")") then Some RightParen else (
    if bytes_eq text (codes "{") then Some LeftBrace else (
    if bytes_eq text (codes "}") then Some RightBrace else (
    if bytes_eq text (codes "[") then Some LeftBracket else (
    if bytes_eq text (codes "]") then Some RightBracket else (
    None))))))))))))

abbrev pub reserved_of : List ℕ → Word
reserved_of text =
    or_word (λ item. Keyed (Item item)) (item_of text) (
    or_word (λ op. Keyed (Operates (Unary op))) (unary_of text) (
    or_word (λ op. Keyed (Operates (Binary op))) (binary_of text) (
    or_word (λ form. Keyed (Operates form)) (form_of text) (
    or_word Shows (symbol_of text) Other))))

abbrev pub sign_word : List ℕ → Word
sign_word text = or_word Shows (sign_of text) Other

-- all tokens of a netlist text, with the words that they are
abbrev pub net_words : List ℕ → List Token → List Lexed
net_words bytes tokens = edited (lexed_all reserved_of sign_word bytes tokens)
