-- The laws of the tokens of a text.
use Rattle.std.proofs.Common.{◌≡◌, ◌≢◌, ℕ, zero, suc, ◌+◌, ◌-◌, ◌≤◌, List, [], ◌∷◌, length, drop, All, refl, sym, ap, subst, ◌∙◌, arith}
use Rattle.std.proofs.lemmas.List.{length-drop, length-map, drop-drop}
use Rattle.std.proofs.lemmas.List.Elements.{All-nil, All-cons, All-weaker}
use Rattle.grammar.specs.declared.words.Word.{Word}
use Rattle.lexing.specs.declared.token.Token.{Token}
use Rattle.lexing.specs.declared.token.Kind.{Kind}
use Rattle.lexing.specs.declared.token.Kind.TheVariants.{Bad}
use Rattle.lexing.specs.declared.piece.Piece.{Piece}
use Rattle.lexing.specs.declared.piece.Piece.TheVariants.{Blank, Whole, Wrong}
use Rattle.lexing.specs.Table.{Lexicon}
use Rattle.lexing.specs.Tokens.{piece, a_token, tokens_from, tokens_of}
use Rattle.lexing.specs.Laws.{IsSpacing, nothing, IsKind, IsTokenOf, AreInOrder, AreSpaced, IsBadLast, AreTokens}
use Rattle.lexing.specs.Words.{lexed_all, lexed_of}
use Rattle.lexing.proofs.Scans.{IsWithin, piece_within}
use Rattle.lexing.proofs.Standing.{blank_is, whole_is, wrong_is}

-- the tokens of a text from a place on
record AreFrom (table : Lexicon) (bytes : List ℕ) (from : ℕ) (tokens : List Token) : Type 0 where
  each : All (IsTokenOf table bytes) tokens
  in_order : AreInOrder from tokens
  spaced : AreSpaced bytes from tokens
  bad_last : IsBadLast tokens

none_from : (table : Lexicon) (bytes : List ℕ) (from : ℕ) → length bytes ≤ from → AreFrom table bytes from []
none_from table bytes from end =
    let none : 0 ≡ length bytes - from = omega arith in
    record { each = All-nil (IsTokenOf table bytes); in_order = tt; spaced = subst (λ n. IsSpacing n (drop from bytes)) none (nothing (drop from bytes)); bad_last = tt }

-- Spacing of n bytes at the place `from`, and what follows it.
module _ (bytes : List ℕ) (from n : ℕ) (within : from + n ≤ length bytes) (space : (m : ℕ) → IsSpacing m (drop (from + n) bytes) → IsSpacing (n + m) (drop from bytes)) where
  order_earlier : (tokens : List Token) → AreInOrder (from + n) tokens → AreInOrder from tokens
  order_earlier [] order = tt
  order_earlier (token ∷ rest) order = (omega (arith, order.0), order.1)

  spaced_earlier : (tokens : List Token) → AreInOrder (from + n) tokens → AreSpaced bytes (from + n) tokens → AreSpaced bytes from tokens
  spaced_earlier [] order spaced =
      let e : n + (length bytes - (from + n)) ≡ length bytes - from = omega arith in
      subst (λ m. IsSpacing m (drop from bytes)) e (space (length bytes - (from + n)) spaced)
  spaced_earlier (token ∷ rest) order spaced =
      let e : n + (token.at - (from + n)) ≡ token.at - from = omega (arith, order.0) in
      (subst (λ m. IsSpacing m (drop from bytes)) e (space (token.at - (from + n)) spaced.0), spaced.1)

  earlier : (table : Lexicon) (tokens : List Token) → AreFrom table bytes (from + n) tokens → AreFrom table bytes from tokens
  earlier table tokens law = record { each = law.each; in_order = order_earlier tokens law.in_order; spaced = spaced_earlier tokens law.in_order law.spaced; bad_last = law.bad_last }

-- one more token in front
more : (table : Lexicon) (bytes : List ℕ) (token : Token) (rest : List Token) → IsTokenOf table bytes token → (token.kind ≡ Bad → rest ≡ []) → (token.kind ≢ Bad → AreSpaced bytes (token.at + token.len) rest) → All (IsTokenOf table bytes) rest → AreInOrder (token.at + token.len) rest → IsBadLast rest → AreFrom table bytes token.at (token ∷ rest)
more table bytes token rest is last spaced each order bad_last =
    let none : 0 ≡ token.at - token.at = omega arith in
    record {
      each = All-cons (IsTokenOf table bytes) token rest is each;
      in_order = (omega arith, order);
      spaced = (subst (λ n. IsSpacing n (drop token.at bytes)) none (nothing (drop token.at bytes)), spaced);
      bad_last = (last, bad_last);
    }

at_blank : (table : Lexicon) (at n b : ℕ) (bs : List ℕ) → piece table (b ∷ bs) ≡ Blank n → tokens_from table (at + 1) (n - 1) bs ≡ tokens_from table at 0 (b ∷ bs)
unfolding tokens_from
at_blank table at n b bs e = rw (e, tokens_from) refl

at_whole : (table : Lexicon) (at n b : ℕ) (kind : Kind) (bs : List ℕ) → piece table (b ∷ bs) ≡ Whole kind n → a_token kind at n ∷ tokens_from table (at + 1) (n - 1) bs ≡ tokens_from table at 0 (b ∷ bs)
unfolding tokens_from
at_whole table at n b kind bs e = rw (e, tokens_from) refl

at_wrong : (table : Lexicon) (at b : ℕ) (bs : List ℕ) → piece table (b ∷ bs) ≡ Wrong → a_token Bad at 1 ∷ [] ≡ tokens_from table at 0 (b ∷ bs)
unfolding tokens_from
at_wrong table at b bs e = rw (e, tokens_from) refl

module _ (table : Lexicon) (bytes : List ℕ) where
  step : (at b : ℕ) (bs : List ℕ) → b ∷ bs ≡ drop at bytes → ((k : ℕ) → AreFrom table bytes (at + 1 + k) (tokens_from table (at + 1) k bs)) → (p : Piece) → piece table (b ∷ bs) ≡ p → IsWithin (length (b ∷ bs)) p → AreFrom table bytes at (tokens_from table at 0 (b ∷ bs))
  step at b bs here rest (Blank n) e within =
      let end : at + 1 + (n - 1) ≡ at + n = omega (arith, within.0) in
      let inside : at + n ≤ length bytes = omega (arith, within.0, within.1, ap length here, length-drop at bytes) in
      let space : (m : ℕ) → IsSpacing m (drop (at + n) bytes) → IsSpacing (n + m) (drop at bytes) =
      λ m spacing. subst (λ (xs : List ℕ). IsSpacing (n + m) xs) here (blank_is table n b bs e m (subst (λ (xs : List ℕ). IsSpacing m xs) (sym (ap (λ xs. drop n xs) here ∙ drop-drop n at bytes)) spacing)) in
      subst (λ (ts : List Token). AreFrom table bytes at ts) (at_blank table at n b bs e) (earlier bytes at n inside space table (tokens_from table (at + 1) (n - 1) bs) (subst (λ m. AreFrom table bytes m (tokens_from table (at + 1) (n - 1) bs)) end (rest (n - 1))))
  step at b bs here rest (Whole kind n) e within =
      let stands = whole_is table kind n b bs e in
      let end : at + 1 + (n - 1) ≡ at + n = omega (arith, within.0) in
      let is : IsTokenOf table bytes (a_token kind at n) = record {
        some = within.0;
        within = omega (arith, within.0, within.1, ap length here, length-drop at bytes);
        kind = subst (λ (xs : List ℕ). IsKind table kind n xs) here stands.0;
      } in
      let behind : AreFrom table bytes (at + n) (tokens_from table (at + 1) (n - 1) bs) = subst (λ m. AreFrom table bytes m (tokens_from table (at + 1) (n - 1) bs)) end (rest (n - 1)) in
      subst (λ (ts : List Token). AreFrom table bytes at ts) (at_whole table at n b kind bs e) (more table bytes (a_token kind at n) (tokens_from table (at + 1) (n - 1) bs) is (λ bad. absurd (stands.1 bad)) (λ good. behind.spaced) behind.each behind.in_order behind.bad_last)
  step at b bs here rest Wrong e within =
      let is : IsTokenOf table bytes (a_token Bad at 1) = record {
        some = omega arith;
        within = omega (arith, ap length here, length-drop at bytes);
        kind = subst (λ (xs : List ℕ). IsKind table Bad 1 xs) here (refl, wrong_is table b bs e);
      } in
      subst (λ (ts : List Token). AreFrom table bytes at ts) (at_wrong table at b bs e) (more table bytes (a_token Bad at 1) [] is (λ bad. refl) (λ good. absurd (good refl)) (All-nil (IsTokenOf table bytes)) tt tt)

  next_here : (at b : ℕ) (bs : List ℕ) → b ∷ bs ≡ drop at bytes → bs ≡ drop (at + 1) bytes
  next_here at b bs here = ap (λ xs. drop 1 xs) here ∙ drop-drop 1 at bytes

  from_place : (at skip : ℕ) (bs : List ℕ) → bs ≡ drop at bytes → AreFrom table bytes (at + skip) (tokens_from table at skip bs)
  unfolding tokens_from
  from_place at zero [] here = none_from table bytes (at + zero) (omega (arith, ap length here, length-drop at bytes))
  from_place at (suc skip) [] here = none_from table bytes (at + suc skip) (omega (arith, ap length here, length-drop at bytes))
  from_place at (suc skip) (b ∷ bs) here =
      let e : at + 1 + skip ≡ at + suc skip = omega arith in
      subst (λ m. AreFrom table bytes m (tokens_from table (at + 1) skip bs)) e (from_place (at + 1) skip bs (next_here at b bs here))
  from_place at zero (b ∷ bs) here =
      let e : at ≡ at + zero = omega arith in
      subst (λ m. AreFrom table bytes m (tokens_from table at zero (b ∷ bs))) e (step at b bs here (λ k. from_place (at + 1) k bs (next_here at b bs here)) (piece table (b ∷ bs)) refl (piece_within table b bs))

-- each token stands at its place, they lie one behind the other with nothing but spacing between,
-- and none but the last is bad
pub are_tokens : (table : Lexicon) (bytes : List ℕ) → AreTokens table bytes (tokens_of table bytes)
are_tokens table bytes =
    let law = from_place table bytes 0 0 bytes refl in
    record { each = law.each; in_order = law.in_order; spaced = law.spaced; bad_last = law.bad_last }

pub lawful_all : (table : Lexicon) (bytes : List ℕ) (tokens : List Token) → tokens ≡ tokens_of table bytes → AreTokens table bytes tokens
lawful_all table bytes tokens e = subst (λ (ts : List Token). AreTokens table bytes ts) (sym e) (are_tokens table bytes)

-- ---- what follows of them

-- all tokens from the place `from` on lie there
pub later : (from : ℕ) (tokens : List Token) → AreInOrder from tokens → All (λ token. from ≤ token.at) tokens
later from [] order = All-nil (λ token. from ≤ token.at)
later from (token ∷ rest) order =
    let behind : All (λ next. token.at + token.len ≤ next.at) rest = later (token.at + token.len) rest order.1 in
    All-cons (λ next. from ≤ next.at) token rest order.0 (All-weaker (λ next. token.at + token.len ≤ next.at) (λ next. from ≤ next.at) (λ next h. omega (arith, order.0)) rest behind)

-- ---- no more tokens than bytes

-- a piece gives one token at most and takes at least one byte
next_token : (table : Lexicon) (at b : ℕ) (bs : List ℕ) → ((k : ℕ) → length (tokens_from table (at + 1) k bs) ≤ length bs)
    → (p : Piece) → piece table (b ∷ bs) ≡ p → length (tokens_from table at 0 (b ∷ bs)) ≤ length (b ∷ bs)
unfolding tokens_from
next_token table at b bs f (Blank n) e = rw (e, tokens_from) (let k : length (tokens_from table (at + 1) (n - 1) bs) ≤ length bs = f (n - 1) in omega arith)
next_token table at b bs f (Whole kind n) e = rw (e, tokens_from) (let k : length (tokens_from table (at + 1) (n - 1) bs) ≤ length bs = f (n - 1) in omega arith)
next_token table at b bs f Wrong e = rw (e, tokens_from) (omega arith)

pub few_tokens : (table : Lexicon) (at skip : ℕ) (bytes : List ℕ) → length (tokens_from table at skip bytes) ≤ length bytes
unfolding tokens_from
few_tokens table at skip [] = omega arith
few_tokens table at (suc skip) (b ∷ bs) = let k : length (tokens_from table (at + 1) skip bs) ≤ length bs = few_tokens table (at + 1) skip bs in omega arith
few_tokens table at zero (b ∷ bs) = next_token table at b bs (λ k. few_tokens table (at + 1) k bs) (piece table (b ∷ bs)) refl

-- a text has no more words than bytes
pub few_words : {S K : Type 0} (reserved sign : List ℕ → Word S K) (table : Lexicon) (bytes : List ℕ) → length (lexed_all reserved sign bytes (tokens_of table bytes)) ≤ length bytes
few_words reserved sign table bytes = omega (arith, length-map (tokens_of table bytes) (lexed_of reserved sign bytes), few_tokens table 0 0 bytes)
