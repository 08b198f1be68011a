-- Values, lengths and tokens at worked texts.
use Rattle.std.specs.Prelude.{◌≡◌, refl, ◌^◌, ◌-◌, [], ◌∷◌, codes}
use Rattle.lexing.specs.declared.token.Kind.TheVariants.{Name, Reserved, Number, Sign, Bad}
use Rattle.lexing.specs.Numbers.{number_length, number_value, written_number}
use Rattle.lexing.specs.Table.{Lexicon, sign_length}
use Rattle.lexing.specs.Tokens.{a_token, piece, tokens_from, tokens_of, token_bytes}

leading_zeros : number_value (codes "007") ≡ 7
leading_zeros = refl

both_cases : number_value (codes "0xAf") ≡ 175
both_cases = refl

greatest : number_value (codes "0xffffffffffffffff") ≡ 2 ^ 64 - 1
greatest = refl

too_great : written_number (codes "18446744073709551617") ≡ 2 ^ 64 - 1
too_great = refl

no_hex_digit : number_length (codes "0xg") ≡ 1
no_hex_digit = refl

abbrev shifts : Lexicon
shifts = record { reserved = codes "if" ∷ []; signs = codes ">" ∷ codes ">>>" ∷ codes ">>" ∷ codes ">=" ∷ [] }

longest_sign : sign_length shifts (codes ">>>=") ≡ 3
longest_sign = refl

no_sign : sign_length shifts (codes "=>") ≡ 0
no_sign = refl

worked_tokens : tokens_of shifts (codes "if iff>=12 // 9_")
    ≡ a_token Reserved 0 2 ∷ a_token Name 3 3 ∷ a_token Sign 6 2 ∷ a_token Number 8 2 ∷ []
unfolding tokens_from piece
worked_tokens = refl

worked_bad : tokens_of shifts (codes ">9_>") ≡ a_token Sign 0 1 ∷ a_token Bad 1 1 ∷ []
unfolding tokens_from piece
worked_bad = refl

worked_bytes : token_bytes (codes "if iff") (a_token Name 3 3) ≡ codes "iff"
worked_bytes = refl
