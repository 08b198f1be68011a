-- The names that a netlist text gives have bytes of names alone, so they have no marks.
use Rattle.std.proofs.Common.{Bool, cond, map, ◌≡◌, ℕ, zero, suc, ◌+◌, ◌||◌, true, false, true≢false, List, [], ◌∷◌, ◌++◌, Option, Some, None, take, drop, slice_get, arith, refl, sym, ap, subst, ◌∙◌}
use Rattle.std.specs.List.{AllByRecursion, AllPass}
use Rattle.std.proofs.lemmas.Bool.{ne_eqb}
use Rattle.std.proofs.lemmas.List.Elements.{All-head, All-tail, All-weaker, All-map, recursion_from_All}
use Rattle.grammar.specs.Reading.{Bind, ListOf, none, some}
use Rattle.lexing.specs.declared.token.Kind.{Kind}
use Rattle.lexing.specs.declared.token.Kind.TheVariants.{Name, Reserved, Number, Sign, Bad}
use Rattle.lexing.specs.Bytes.{is_name_byte}
use Rattle.lexing.specs.Laws.{IsKind, IsTokenOf}
use Rattle.lexing.proofs.TokenLaws.{are_tokens}
use Rattle.net_lexer.specs.Netlists.{netlists, net_tokens}
use Rattle.grammar.specs.declared.words.Ident.{Ident}
use Rattle.net_model.specs.Editions.{Lexed, Word, edited, is_added, is_banked, item_or_name, item_told, lexed_in, names_version, word_in}
use Rattle.net_model.specs.Grammar.{IsItem, IsSized, IsItems, IsText, ItemBehind, ItemByWord}
use Rattle.grammar.specs.declared.words.Word.TheVariants.{Name as Named, Symbol as Shows, Key as Keyed, Other}
use Rattle.net_model.specs.declared.words.Key.TheVariants.{Item, Operator as Operates}
use Rattle.net_model.specs.declared.words.ItemWord.{ItemWord}
use Rattle.net_model.specs.declared.words.ItemWord.TheVariants.{Code, Register, Mode, Memory, File, Bank, Net, Bus, Module, Part}
use Rattle.net_model.specs.declared.hardware.Space.TheVariants.{Memory as InMemory, File as InFile}
use Rattle.net_model.specs.declared.words.Operator.TheVariants.{Unary, Binary}
use Rattle.net_model.specs.declared.hardware.Netlist.{Netlist}
use Rattle.net_model.specs.Elaborated.{codes_from, netlist_of, storages_from}
use Rattle.grammar.specs.Tokens.{IsName}
use Rattle.net_model.specs.Numbering.{count_item}
use Rattle.net_model.specs.TextNames.{own_name}
use Rattle.net_model.specs.Texts.{first_name, name_in, name_of}
use Rattle.net_model.specs.Written.{UnitsModel, UnitModel, code, register, memory}
use Rattle.net_front.specs.Fronts.{SaysNet, taken_of}
use Rattle.net_parser.specs.Texts.{net_lexed}
use Rattle.net_parser.specs.Words.{binary_of, form_of, item_of, reserved_of, sign_of, sign_word, symbol_of, unary_of}
use Rattle.lexing.specs.Words.{lexed_all, lexed_of, or_word, word_of}
use Rattle.std.specs.Str.{bytes_eq}
use Rattle.std.specs.Prelude.{codes}
use Rattle.net_model.specs.declared.words.Symbol.TheVariants.{Version}
use Rattle.transfer_set.specs.TextMarks.{HasPlainNames, Plain, is_mark}
use Rattle.net_front.proofs.FrontLaws.{taken_banked, taken_plain}
use Rattle.isa_extract.proofs.ViewNames.{view_code, view_storages}

-- ---- bytes

unlike : (b mark : ℕ) → is_name_byte mark ≡ false → is_name_byte b ≡ true → b ≡ mark → ⊥
unlike b mark other named e = true≢false (sym named ∙ ap is_name_byte e ∙ other)

plain_byte : (b : ℕ) → is_name_byte b ≡ true → is_mark b ≡ false
plain_byte b named =
    let comma = ne_eqb b 44 (unlike b 44 refl named) in
    let closing = ne_eqb b 41 (unlike b 41 refl named) in
    let square_closing = ne_eqb b 93 (unlike b 93 refl named) in
    let hash = ne_eqb b 35 (unlike b 35 refl named) in
    let opening = ne_eqb b 40 (unlike b 40 refl named) in
    let square_opening = ne_eqb b 91 (unlike b 91 refl named) in
    let blank = ne_eqb b 32 (unlike b 32 refl named) in
    (λ j. (comma j || closing j || square_closing j) || (hash j || opening j || square_opening j || blank j))

plain_bytes : (bs : List ℕ) → AllPass is_name_byte bs → Plain bs
plain_bytes [] named = tt
plain_bytes (b ∷ bs) named =
    (plain_byte b (All-head (λ x. is_name_byte x ≡ true) b bs named), plain_bytes bs (All-tail (λ x. is_name_byte x ≡ true) b bs named))

-- ---- words

-- a name has bytes of names alone
abbrev SpelledWord : Word → Type 0
SpelledWord (Named n) = AllPass is_name_byte n
SpelledWord _ = Unit {0}

abbrev SpelledToken : Lexed → Type 0
SpelledToken token = SpelledWord token.word

abbrev AreSpelled : List Lexed → Type 0
AreSpelled = AllByRecursion SpelledToken

spelled_else : {A : Type 0} (make : A → Word) → ((a : A) → SpelledWord (make a)) → (found : Option A) (next : Word) → SpelledWord next → SpelledWord (or_word make found next)
spelled_else make each None next spelled = spelled
spelled_else make each (Some a) next spelled = each a

spelled_reserved : (text : List ℕ) → SpelledWord (reserved_of text)
spelled_reserved text =
    let symbols = or_word Shows (symbol_of text) Other in
    let forms = or_word (λ form. Keyed (Operates form)) (form_of text) symbols in
    let binaries = or_word (λ op. Keyed (Operates (Binary op))) (binary_of text) forms in
    let unaries = or_word (λ op. Keyed (Operates (Unary op))) (unary_of text) binaries in
    spelled_else (λ item. Keyed (Item item)) (λ word. tt) (item_of text) unaries
    (spelled_else (λ op. Keyed (Operates (Unary op))) (λ op. tt) (unary_of text) binaries
    (spelled_else (λ op. Keyed (Operates (Binary op))) (λ op. tt) (binary_of text) forms
    (spelled_else (λ form. Keyed (Operates form)) (λ operator. tt) (form_of text) symbols (spelled_else Shows (λ symbol. tt) (symbol_of text) Other tt))))

spelled_word : (kind : Kind) (n : ℕ) (bytes : List ℕ) → IsKind netlists kind n bytes → SpelledWord (word_of reserved_of sign_word kind (take n bytes))
spelled_word Name n bytes is = is.0.run.all
spelled_word Reserved n bytes is = spelled_reserved (take n bytes)
spelled_word Number n bytes is = tt
spelled_word Sign n bytes is = spelled_else Shows (λ s. tt) (sign_of (take n bytes)) Other tt
spelled_word Bad n bytes is = tt

spelled_lexed : (bytes : List ℕ) → AreSpelled (lexed_all reserved_of sign_word bytes (net_tokens bytes))
spelled_lexed bytes =
    recursion_from_All SpelledToken (lexed_all reserved_of sign_word bytes (net_tokens bytes))
    (All-map SpelledToken (lexed_of reserved_of sign_word bytes) (net_tokens bytes)
    (All-weaker (IsTokenOf netlists bytes) (λ token. SpelledToken (lexed_of reserved_of sign_word bytes token))
    (λ token is. spelled_word token.kind token.len (drop token.at bytes) is.kind)
    (net_tokens bytes) (are_tokens netlists bytes).each))

-- the names of an edition are spelled so where those of the first are
spelled_or_item : (added : Option ItemWord) (name : List ℕ) → AllPass is_name_byte name → SpelledWord (item_or_name added name)
spelled_or_item None name spelled = spelled
spelled_or_item (Some item) name spelled = by (is_added item name)
  where
    by : (b : Bool) → SpelledWord (cond b (Keyed (Item item)) (Named name))
    by true = tt
    by false = spelled

spelled_in : (added : Option ItemWord) (word : Word) → SpelledWord word → SpelledWord (word_in added word)
spelled_in added (Named name) spelled = by (bytes_eq name (codes "version"))
  where
    by : (b : Bool) → SpelledWord (cond b (Shows Version) (item_or_name added name))
    by true = tt
    by false = spelled_or_item added name spelled
spelled_in added word spelled = spelled

spelled_map : (added : Option ItemWord) (ts : List Lexed) → AreSpelled ts → AreSpelled (map (lexed_in added) ts)
spelled_map added [] spelled = tt
spelled_map added (t ∷ ts) spelled = (spelled_in added t.word spelled.0, spelled_map added ts spelled.1)

spelled_edited : (ts : List Lexed) → AreSpelled ts → AreSpelled (edited ts)
spelled_edited ts spelled = by (names_version (slice_get ts 0))
  where
    by : (b : Bool) → AreSpelled (cond b (map (lexed_in (item_told (slice_get ts 1))) ts) ts)
    by true = spelled_map (item_told (slice_get ts 1)) ts spelled
    by false = spelled

spelled_words : (bytes : List ℕ) → AreSpelled (net_lexed bytes)
spelled_words bytes = spelled_edited (lexed_all reserved_of sign_word bytes (net_tokens bytes)) (spelled_lexed bytes)

-- ---- items

abbrev SpelledEntry : UnitModel → Type 0
SpelledEntry entry = AllPass is_name_byte (own_name entry).name

spelled_parts : (us vs : List Lexed) → AreSpelled (us ++ vs) → AreSpelled us × AreSpelled vs
spelled_parts [] vs spelled = (tt, spelled)
spelled_parts (u ∷ us) vs spelled = let rest = spelled_parts us vs spelled.1 in ((spelled.0, rest.0), rest.1)

module _ {V W : Type 0} {A : List Lexed → V → Type 0} {B : List Lexed → V → List Lexed → W → Type 0} {ts : List Lexed} {w : W} (is : Bind A B ts w) (spelled : AreSpelled ts) where
  spelled_both : AreSpelled is.front × AreSpelled is.back
  spelled_both = spelled_parts is.front is.back (subst AreSpelled is.parts spelled)

  spelled_front : AreSpelled is.front
  spelled_front = spelled_both.0

  spelled_back : AreSpelled is.back
  spelled_back = spelled_both.1

spelled_name : (ts : List Lexed) (name : Ident) → AreSpelled ts → IsName ts name → AllPass is_name_byte name.name
spelled_name ts name spelled is = subst SpelledToken is.is (subst AreSpelled is.parts spelled).0

spelled_sized : (ts : List Lexed) (sized : Ident × ℕ) → AreSpelled ts → IsSized ts sized → AllPass is_name_byte sized.0.name
spelled_sized ts sized spelled is =
    subst (λ (s : Ident × ℕ). AllPass is_name_byte s.0.name) (sym is.second.second.same) (spelled_name is.front is.value (spelled_front is spelled) is.first)

spelled_behind : (word : ItemWord) (ts : List Lexed) (entry : UnitModel) → AreSpelled ts → ItemBehind word ts entry → SpelledEntry entry
spelled_behind Code ts entry spelled is =
    subst SpelledEntry (sym is.second.second.second.same) (spelled_sized is.front is.value (spelled_front is spelled) is.first)
spelled_behind Register ts entry spelled is =
    subst SpelledEntry (sym is.second.second.same) (spelled_sized is.front is.value (spelled_front is spelled) is.first)
spelled_behind Mode ts entry spelled is =
    subst SpelledEntry (sym is.second.second.same) (spelled_sized is.front is.value (spelled_front is spelled) is.first)
spelled_behind Memory ts entry spelled is =
    subst SpelledEntry (sym is.second.second.second.second.same) (spelled_sized is.front is.value (spelled_front is spelled) is.first)
spelled_behind File ts entry spelled is =
    subst SpelledEntry (sym is.second.second.second.second.same) (spelled_sized is.front is.value (spelled_front is spelled) is.first)
spelled_behind Bank ts entry spelled is =
    subst SpelledEntry (sym is.second.second.second.second.same) (spelled_sized is.front is.value (spelled_front is spelled) is.first)
spelled_behind Net ts entry spelled is =
    subst SpelledEntry (sym is.second.second.same) (spelled_sized is.front is.value (spelled_front is spelled) is.first)
spelled_behind Bus ts entry spelled is =
    subst SpelledEntry (sym is.second.second.same) (spelled_sized is.front is.value (spelled_front is spelled) is.first)
spelled_behind Module ts entry spelled is =
    subst SpelledEntry (sym is.second.second.second.same) (spelled_name is.front is.value (spelled_front is spelled) is.first)
spelled_behind Part ts entry spelled is =
    subst SpelledEntry (sym is.second.second.second.second.same) (spelled_name is.front is.value (spelled_front is spelled) is.first)

spelled_by_word : (word : Word) (at : ℕ) (ts : List Lexed) (entry : UnitModel) → AreSpelled ts → ItemByWord word at ts entry → SpelledEntry entry
spelled_by_word (Keyed (Item word)) at ts entry spelled is = spelled_behind word ts entry spelled is
spelled_by_word _ at ts entry spelled is = absurd is

spelled_item : (ts : List Lexed) (entry : UnitModel) → AreSpelled ts → IsItem ts entry → SpelledEntry entry
spelled_item ts entry spelled is = spelled_by_word is.value.word is.value.at is.back entry (spelled_back is spelled) is.second

spelled_items : (ts : List Lexed) (entries : List UnitModel) → AreSpelled ts → ListOf IsItem ts entries → AllByRecursion SpelledEntry entries
spelled_items ts entries spelled none = tt
spelled_items ts entries spelled (some {us = us} {b = b} {zs = zs} {w = w} is rest) =
    let both = spelled_parts us zs spelled in
    (spelled_item us b both.0 is, spelled_items zs w both.1 rest)

spelled_all : (ts : List Lexed) (entries : List UnitModel) → AreSpelled ts → IsItems ts entries → AllByRecursion SpelledEntry entries
spelled_all ts entries spelled is =
    let rest = is.second in
    subst (AllByRecursion SpelledEntry) (sym rest.second.same) (
      spelled_item is.front is.value (spelled_front is spelled) is.first,
      spelled_items rest.front rest.value (spelled_front rest (spelled_back is spelled)) rest.first,
    )

spelled_text : (ts : List Lexed) (text : UnitsModel) → AreSpelled ts → IsText ts text → AllByRecursion SpelledEntry text.items
spelled_text ts text spelled is =
    let rest = is.second in
    subst (λ (x : UnitsModel). AllByRecursion SpelledEntry x.items) (sym rest.second.same)
    (spelled_all rest.front rest.value (spelled_front rest (spelled_back is spelled)) rest.first)

-- ---- netlists

none_passes : AllPass is_name_byte []
none_passes = λ k d h. absurd (omega arith)

spelled_storages : (text : List UnitModel) (start : ℕ) (entries : List UnitModel) → AllByRecursion SpelledEntry entries → (id : ℕ) → AllPass is_name_byte (name_in (slice_get (storages_from text start entries) id))
spelled_storages text start [] spelled id = none_passes
spelled_storages text start (register kind name width input when ∷ entries) spelled zero = spelled.0
spelled_storages text start (register kind name width input when ∷ entries) spelled (suc id) =
    spelled_storages text (start + count_item text (register kind name width input when)) entries spelled.1 id
spelled_storages text start (memory InMemory name width size addr_width value addr when ∷ entries) spelled zero = spelled.0
spelled_storages text start (memory InMemory name width size addr_width value addr when ∷ entries) spelled (suc id) =
    spelled_storages text (start + count_item text (memory InMemory name width size addr_width value addr when)) entries spelled.1 id
spelled_storages text start (memory InFile name width size addr_width value addr when ∷ entries) spelled zero = spelled.0
spelled_storages text start (memory InFile name width size addr_width value addr when ∷ entries) spelled (suc id) =
    spelled_storages text (start + count_item text (memory InFile name width size addr_width value addr when)) entries spelled.1 id
spelled_storages text start (entry ∷ entries) spelled id = spelled_storages text (start + count_item text entry) entries spelled.1 id

spelled_code : (text entries : List UnitModel) → AllByRecursion SpelledEntry entries → AllPass is_name_byte (first_name (codes_from text entries))
spelled_code text [] spelled = none_passes
spelled_code text (code name bits size counter ∷ entries) spelled = spelled.0
spelled_code text (entry ∷ entries) spelled = spelled_code text entries spelled.1

-- the names of a netlist have bytes of names alone
pub record HasSpelledNames (netlist : Netlist) : Type 0 where
  pub storages : (id : ℕ) → AllPass is_name_byte (name_of netlist id)
  pub code : AllPass is_name_byte (first_name netlist.codes)

-- so have those of a text that is read
own_names : (bytes : List ℕ) (text : UnitsModel) → SaysNet bytes text → HasSpelledNames (netlist_of text)
own_names bytes text says =
    let spelled = spelled_text (net_lexed bytes) text (spelled_words bytes) says.text.spelled in
    record {
      storages = spelled_storages text.items 0 text.items spelled;
      code = spelled_code text.items text.items spelled;
    }

-- and those of the netlist that is taken for it
pub spelled_names : (bytes : List ℕ) (text : UnitsModel) → SaysNet bytes text → HasSpelledNames (taken_of text)
spelled_names bytes text says = by (is_banked text.edition) refl
  where
    own : HasSpelledNames (netlist_of text)
    own = own_names bytes text says

    by : (b : Bool) → is_banked text.edition ≡ b → HasSpelledNames (taken_of text)
    by true banked = subst HasSpelledNames (sym (taken_banked text banked)) (record {
      storages = view_storages (AllPass is_name_byte) (netlist_of text) own.storages;
      code = view_code (AllPass is_name_byte) (netlist_of text) own.code;
    })
    by false plain = subst HasSpelledNames (sym (taken_plain text plain)) own

-- which have no marks
pub plain_names : (bytes : List ℕ) (text : UnitsModel) → SaysNet bytes text → HasPlainNames (taken_of text)
plain_names bytes text says =
    let spelled = spelled_names bytes text says in
    record { storages = λ id. plain_bytes _ (spelled.storages id); code = plain_bytes _ spelled.code }
