-- The grammar of netlist texts.
use Rattle.std.specs.Prelude.{◌≡◌, ℕ, zero, suc, Bool, true, false, List, [], ◌∷◌, Option, Some, None, IsTrue, is_some}
use Rattle.net_model.specs.Editions.{Lexed, Word, added_by}
use Rattle.grammar.specs.Reading.{Return, Token, ◌>>=◌, Maybe, ListOf}
use Rattle.grammar.specs.declared.words.Ident.{Ident}
use Rattle.net_model.specs.declared.units.Port.{Port}
use Rattle.grammar.specs.Tokens.{Sign, IsName, IsNumber, ByWord, IsNothing, Behind, Before}
use Rattle.grammar.specs.declared.words.Word.TheVariants.{Name, Number, Symbol as Shows, Key as Keyed}
use Rattle.net_model.specs.declared.words.Key.TheVariants.{Item, Operator as Operates}
use Rattle.net_model.specs.declared.words.ItemWord.{ItemWord}
use Rattle.net_model.specs.declared.words.ItemWord.TheVariants.{Code, Register, Mode, Memory, File, Bank, Net, Bus, Module, Part}
use Rattle.net_model.specs.declared.hardware.Space.{Space}
use Rattle.net_model.specs.declared.units.RegisterKind.{RegisterKind}
use Rattle.net_model.specs.declared.units.RegisterKind.TheVariants.{Plain, Mode as AsMode}
use Rattle.net_model.specs.declared.hardware.Space.TheVariants.{Memory as InMemory, File as InFile}
use Rattle.net_model.specs.declared.words.Operator.{Operator}
use Rattle.net_model.specs.declared.words.Operator.TheVariants.{Unary, Binary, Cat, Slice, Zext, Sext, Read, Case}
use Rattle.net_model.specs.declared.words.Symbol.{Symbol}
use Rattle.net_model.specs.declared.words.Symbol.TheVariants.{Colon, Semicolon, Comma, Equals, Dot, Hash, LeftParen, RightParen, LeftBrace, RightBrace, LeftBracket, RightBracket, Size, At, In, Out, When, Addr, Write, Else, Version}
use Rattle.net_model.specs.Written.{NetExprModel, named, const, un, bin, cat, slice, zext, sext, read, case, case_rows_of, case_rest_of, UnitsModel, UnitModel, code, register, memory, net, bus, module_item, part}

-- { ',' X }
abbrev pub Others : {V : Type 0} → (List Lexed → V → Type 0) → List Lexed → List V → Type 0
Others X = ListOf (Behind Comma X)

-- ---- expressions

-- [ '.' name ]
abbrev pub IsField : List Lexed → Option Ident → Type 0
IsField = Maybe (Behind Dot IsName)

abbrev pub slice_ends : ℕ → Option ℕ → ℕ × ℕ
slice_ends hi None = (hi, hi)
slice_ends hi (Some lo) = (hi, lo)

-- number [ ':' number ], with the first number in place of a second one that is missing
abbrev pub IsRange : List Lexed → ℕ × ℕ → Type 0
IsRange = do
  hi ← IsNumber
  lo ← Maybe (Behind Colon IsNumber)
  Return (slice_ends hi lo)

-- [ '[' number [ ':' number ] ']' ]
abbrev pub IsBits : List Lexed → Option (ℕ × ℕ) → Type 0
IsBits = Maybe (Behind LeftBracket (Before IsRange RightBracket))

-- an expression without levels
abbrev pub LeafBehind : Word → ℕ → List Lexed → NetExprModel → Type 0
-- name [ '.' name ] [ '[' number [ ':' number ] ']' ]
LeafBehind (Name n) at = do
  field ← IsField
  bits ← IsBits
  Return (named (record { name = n; at = at }) field bits)
-- number '#' number
LeafBehind (Number n) at = do
  width ← Behind Hash IsNumber
  Return (const n width)
LeafBehind _ at = IsNothing

-- ':' Expr ';'
abbrev pub IsArm : (List Lexed → NetExprModel → Type 0) → List Lexed → NetExprModel → Type 0
IsArm E = Before (Behind Colon E) Semicolon

-- { ',' number } behind the number n
abbrev pub NumbersBehind : ℕ → List Lexed → List ℕ → Type 0
NumbersBehind n = do
  others ← Others IsNumber
  Return (n ∷ others)

-- { ',' number } ':' Expr ';' behind the number n
abbrev pub RowBehind : (List Lexed → NetExprModel → Type 0) → ℕ → List Lexed → List ℕ × NetExprModel → Type 0
RowBehind E n = do
  numbers ← NumbersBehind n
  a ← IsArm E
  Return (numbers, a)

-- number { ',' number } ':' Expr ';'
abbrev pub IsRow : (List Lexed → NetExprModel → Type 0) → List Lexed → List ℕ × NetExprModel → Type 0
IsRow E = do
  n ← IsNumber
  RowBehind E n

-- the other rows behind a first one
abbrev pub RowsBehind : (List Lexed → NetExprModel → Type 0) → List ℕ × NetExprModel → List Lexed → List (List ℕ × NetExprModel) → Type 0
RowsBehind E first = do
  others ← ListOf (IsRow E)
  Return (first ∷ others)

-- [ 'else' ':' Expr ';' ]
abbrev pub IsElse : (List Lexed → NetExprModel → Type 0) → List Lexed → Option NetExprModel → Type 0
IsElse E = Maybe (Behind Else (IsArm E))

abbrev pub Arms : Type 0
Arms = List (List ℕ × NetExprModel) × Option NetExprModel

-- at least one row and maybe an else, or an else alone, by the first word
abbrev pub ArmsBehind : (List Lexed → NetExprModel → Type 0) → Word → ℕ → List Lexed → Arms → Type 0
ArmsBehind E (Number n) at = do
  first ← RowBehind E n
  rows ← RowsBehind E first
  rest ← IsElse E
  Return (rows, rest)
ArmsBehind E (Shows Else) at = do
  rest ← IsArm E
  Return ([], Some rest)
ArmsBehind E _ at = IsNothing

-- '(' Expr ')'
abbrev pub IsSingle : (List Lexed → NetExprModel → Type 0) → List Lexed → NetExprModel → Type 0
IsSingle E = Before (Behind LeftParen E) RightParen

-- '(' Expr ',' Expr ')'
abbrev pub IsPair : (List Lexed → NetExprModel → Type 0) → List Lexed → NetExprModel × NetExprModel → Type 0
IsPair E = do
  a ← Behind LeftParen E
  b ← Before (Behind Comma E) RightParen
  Return (a, b)

-- '(' Expr ',' number ')'
abbrev pub IsWidened : (List Lexed → NetExprModel → Type 0) → List Lexed → NetExprModel × ℕ → Type 0
IsWidened E = do
  a ← Behind LeftParen E
  width ← Before (Behind Comma IsNumber) RightParen
  Return (a, width)

-- '(' Expr ',' number ',' number ')'
abbrev pub IsSliced : (List Lexed → NetExprModel → Type 0) → List Lexed → NetExprModel × ℕ × ℕ → Type 0
IsSliced E = do
  a ← Behind LeftParen E
  hi ← Behind Comma IsNumber
  lo ← Before (Behind Comma IsNumber) RightParen
  Return (a, hi, lo)

-- '(' name ',' Expr ')'
abbrev pub IsReading : (List Lexed → NetExprModel → Type 0) → List Lexed → Ident × NetExprModel → Type 0
IsReading E = do
  name ← Behind LeftParen IsName
  a ← Before (Behind Comma E) RightParen
  Return (name, a)

-- '{' rows and else '}'
abbrev pub IsArms : (List Lexed → NetExprModel → Type 0) → List Lexed → Arms → Type 0
IsArms E = Behind LeftBrace (Before (ByWord (ArmsBehind E)) RightBrace)

-- what stands behind the word of an operator, with E for the expressions in it
abbrev pub IsOperated : (List Lexed → NetExprModel → Type 0) → Operator → List Lexed → NetExprModel → Type 0
-- ( 'not' | 'neg' ) '(' Expr ')'
IsOperated E (Unary op) = do
  a ← IsSingle E
  Return (un op a)
-- an operator of two operands '(' Expr ',' Expr ')'
IsOperated E (Binary op) = do
  p ← IsPair E
  Return (bin op p.0 p.1)
-- 'cat' '(' Expr ',' Expr ')'
IsOperated E Cat = do
  p ← IsPair E
  Return (cat p.0 p.1)
-- 'slice' '(' Expr ',' number ',' number ')'
IsOperated E Slice = do
  s ← IsSliced E
  Return (slice s.0 s.1 s.2)
-- ( 'zext' | 'sext' ) '(' Expr ',' number ')'
IsOperated E Zext = do
  w ← IsWidened E
  Return (zext w.0 w.1)
IsOperated E Sext = do
  w ← IsWidened E
  Return (sext w.0 w.1)
-- 'read' '(' name ',' Expr ')'
IsOperated E Read = do
  r ← IsReading E
  Return (read r.0 r.1)
-- 'case' Expr '{' .. '}'
IsOperated E Case = do
  sel ← E
  arms ← IsArms E
  Return (case sel (case_rows_of arms.0) (case_rest_of arms.1))

abbrev pub ExprBehind : (List Lexed → NetExprModel → Type 0) → Word → ℕ → List Lexed → NetExprModel → Type 0
ExprBehind E (Keyed (Operates o)) at = IsOperated E o
ExprBehind E w at = LeafBehind w at

abbrev pub IsLeaf : List Lexed → NetExprModel → Type 0
IsLeaf = ByWord LeafBehind

-- an expression of at most so many levels
unfoldable pub IsExpr : ℕ → List Lexed → NetExprModel → Type 0
IsExpr zero = IsLeaf
IsExpr (suc d) = ByWord (ExprBehind (IsExpr d))

-- ---- items

abbrev pub IsOuter : List Lexed → NetExprModel → Type 0
IsOuter = IsExpr 64

-- name ':' number
abbrev pub IsSized : List Lexed → Ident × ℕ → Type 0
IsSized = do
  name ← IsName
  width ← Behind Colon IsNumber
  Return (name, width)

-- [ 'when' Expr ]
abbrev pub IsWhen : List Lexed → Option NetExprModel → Type 0
IsWhen = Maybe (Behind When IsOuter)

-- Expr [ 'when' Expr ] ';' behind a symbol: what a storage takes, or where, and when
abbrev pub IsFed : Symbol → List Lexed → NetExprModel × Option NetExprModel → Type 0
IsFed symbol = do
  input ← Behind symbol IsOuter
  when ← Before IsWhen Semicolon
  Return (input, when)

-- Expr 'at' Expr [ 'when' Expr ] ';'
abbrev pub IsWritten : List Lexed → NetExprModel × (NetExprModel × Option NetExprModel) → Type 0
IsWritten = do
  value ← IsOuter
  fed ← IsFed At
  Return (value, fed)

-- 'write' Expr 'at' Expr [ 'when' Expr ] ';'
abbrev pub IsWrite : List Lexed → NetExprModel × (NetExprModel × Option NetExprModel) → Type 0
IsWrite = Behind Write IsWritten

-- Expr 'when' Expr ';'
abbrev pub IsDriver : List Lexed → NetExprModel × NetExprModel → Type 0
IsDriver = do
  value ← IsOuter
  enable ← Before (Behind When IsOuter) Semicolon
  Return (value, enable)

-- Driver { Driver }
abbrev pub IsDrivers : List Lexed → List (NetExprModel × NetExprModel) → Type 0
IsDrivers = do
  first ← IsDriver
  others ← ListOf IsDriver
  Return (first ∷ others)

-- name '=' Expr
abbrev pub IsBinding : List Lexed → Ident × NetExprModel → Type 0
IsBinding = do
  name ← IsName
  value ← Behind Equals IsOuter
  Return (name, value)

abbrev pub direction : Bool → Symbol
direction true = Out
direction false = In

-- 'in' | 'out'
abbrev pub IsDirection : List Lexed → Bool → Type 0
IsDirection = Token (λ t output. t.word ≡ Shows (direction output))

-- ( 'in' | 'out' ) name ':' number
abbrev pub IsPort : List Lexed → Port → Type 0
IsPort = do
  output ← IsDirection
  sized ← IsSized
  Return (record { output = output; name = sized.0; width = sized.1 })

-- Port { ',' Port }
abbrev pub IsPorts : List Lexed → List Port → Type 0
IsPorts = do
  first ← IsPort
  others ← Others IsPort
  Return (first ∷ others)

-- name '=' Expr ';'
abbrev pub IsEquation : List Lexed → Ident × NetExprModel → Type 0
IsEquation = Before IsBinding Semicolon

-- name '=' Expr { ',' name '=' Expr }
abbrev pub IsBindings : List Lexed → List (Ident × NetExprModel) → Type 0
IsBindings = do
  first ← IsBinding
  others ← Others IsBinding
  Return (first ∷ others)

abbrev pub or_none : {V : Type 0} → Option (List V) → List V
or_none None = []
or_none (Some vs) = vs

-- [ name '=' Expr { ',' name '=' Expr } ]
abbrev pub IsLinks : List Lexed → List (Ident × NetExprModel) → Type 0
IsLinks = do
  links ← Maybe IsBindings
  Return (or_none links)

-- name ':' number 'in' Expr [ 'when' Expr ] ';'
abbrev pub IsLatch : RegisterKind → List Lexed → UnitModel → Type 0
IsLatch kind = do
  sized ← IsSized
  fed ← IsFed In
  Return (register kind sized.0 sized.1 fed.0 fed.1)

-- name ':' number 'size' number 'addr' number 'write' Expr 'at' Expr [ 'when' Expr ] ';'
abbrev pub IsCells : Space → List Lexed → UnitModel → Type 0
IsCells space = do
  sized ← IsSized
  size ← Behind Size IsNumber
  addr_width ← Behind Addr IsNumber
  write ← IsWrite
  Return (memory space sized.0 sized.1 size addr_width write.0 write.1.0 write.1.1)

-- three constants of value 0 in place of what a bank writes: it never changes
abbrev pub no_write : ℕ → ℕ → NetExprModel × (NetExprModel × Option NetExprModel)
no_write width addr_width = (const 0 width, (const 0 addr_width, Some (const 0 1)))

-- behind the sizes of a bank: a write, or the end of the item
abbrev pub WriteBehind : NetExprModel × (NetExprModel × Option NetExprModel) → Word → ℕ → List Lexed → NetExprModel × (NetExprModel × Option NetExprModel) → Type 0
WriteBehind none (Shows Semicolon) at = Return none
WriteBehind none (Shows Write) at = IsWritten
WriteBehind none _ at = IsNothing

-- name ':' number 'size' number 'addr' number [ 'write' Expr 'at' Expr [ 'when' Expr ] ] ';'
abbrev pub IsBank : List Lexed → UnitModel → Type 0
IsBank = do
  sized ← IsSized
  size ← Behind Size IsNumber
  addr_width ← Behind Addr IsNumber
  write ← ByWord (WriteBehind (no_write sized.1 addr_width))
  Return (memory InFile sized.0 sized.1 size addr_width write.0 write.1.0 write.1.1)

-- what stands behind the word of an item
abbrev pub ItemBehind : ItemWord → List Lexed → UnitModel → Type 0
-- 'code' name ':' number 'size' number 'at' name ';'
ItemBehind Code = do
  sized ← IsSized
  size ← Behind Size IsNumber
  counter ← Before (Behind At IsName) Semicolon
  Return (code sized.0 sized.1 size counter)
-- 'register' Latch
ItemBehind Register = IsLatch Plain
-- 'mode' Latch
ItemBehind Mode = IsLatch AsMode
-- 'memory' Cells
ItemBehind Memory = IsCells InMemory
-- 'file' Cells
ItemBehind File = IsCells InFile
-- 'bank' Bank
ItemBehind Bank = IsBank
-- 'net' name ':' number '=' Expr ';'
ItemBehind Net = do
  sized ← IsSized
  value ← Before (Behind Equals IsOuter) Semicolon
  Return (net sized.0 sized.1 value)
-- 'bus' name ':' number '{' Driver { Driver } '}'
ItemBehind Bus = do
  sized ← IsSized
  drivers ← Behind LeftBrace (Before IsDrivers RightBrace)
  Return (bus sized.0 sized.1 drivers)
-- 'module' name '(' Port { ',' Port } ')' '{' { name '=' Expr ';' } '}'
ItemBehind Module = do
  name ← IsName
  ports ← Behind LeftParen (Before IsPorts RightParen)
  equations ← Behind LeftBrace (Before (ListOf IsEquation) RightBrace)
  Return (module_item name ports equations)
-- 'part' name ':' name '(' [ name '=' Expr { ',' name '=' Expr } ] ')' ';'
ItemBehind Part = do
  name ← IsName
  of ← Behind Colon IsName
  links ← Behind LeftParen (Before IsLinks RightParen)
  u ← Sign Semicolon
  Return (part name of links)

abbrev pub ItemByWord : Word → ℕ → List Lexed → UnitModel → Type 0
ItemByWord (Keyed (Item w)) at = ItemBehind w
ItemByWord _ at = IsNothing

abbrev pub IsItem : List Lexed → UnitModel → Type 0
IsItem = ByWord ItemByWord

-- Item { Item }
abbrev pub IsItems : List Lexed → List UnitModel → Type 0
IsItems = do
  first ← IsItem
  others ← ListOf IsItem
  Return (first ∷ others)

-- ---- texts

-- the number of an edition
abbrev pub IsEditionNumber : List Lexed → ℕ → Type 0
IsEditionNumber = Token (λ t n. (t.word ≡ Number n) × IsTrue (is_some (added_by n)))

-- [ 'version' number ';' ]
abbrev pub IsHead : List Lexed → Option ℕ → Type 0
IsHead = Maybe (Behind Version (Before IsEditionNumber Semicolon))

-- a text without a head is of edition 1
abbrev pub or_first : Option ℕ → ℕ
or_first None = 1
or_first (Some edition) = edition

-- [ 'version' number ';' ] Item { Item }
abbrev pub IsText : List Lexed → UnitsModel → Type 0
IsText = do
  head ← IsHead
  items ← IsItems
  Return (record { edition = or_first head; items = items })
