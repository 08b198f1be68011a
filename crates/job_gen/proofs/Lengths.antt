-- How long the texts are at most.
use Rattle.std.proofs.Common.{◌≡◌, ℕ, zero, suc, ◌+◌, ◌*◌, ◌/◌, ◌%◌, ◌<◌, ◌≤◌, ◌==◌, Bool, true, false, refl, List, [], ◌∷◌, ◌++◌, length, if◌then◌else◌, length-append, arith}
use Rattle.std.proofs.lemmas.Fmt.{length-decimal-le}
use Rattle.std.specs.Fmt.{decimal, digits}
use Rattle.job_gen.specs.Each.{each}
use Rattle.job_gen.specs.NetText.{memory_line, net_text, register_line, register_numbers, register_rows, store_number, store_row, net_head}
use Rattle.job_gen.specs.SrcText.{drawn, sign, src_text, statement_line}

-- ---- the netlist, by how many accumulators there are behind the first

net_text_of : ℕ → List ℕ
net_text_of more = net_head ++ (each register_line (more + 1) ++ (memory_line more ++ []))

short_of : (more : ℕ) → more < 4 → length (net_text_of more) < 4294967296
unfolding net_text_of register_line register_rows register_numbers store_row store_number digits
short_of zero le = omega arith
short_of (suc zero) le = omega arith
short_of (suc (suc zero)) le = omega arith
short_of (suc (suc (suc zero))) le = omega arith
short_of (suc (suc (suc (suc n)))) le = absurd (omega arith)

pub net_short : (number : ℕ) → length (net_text number) < 4294967296
unfolding net_text net_text_of
net_short number = short_of (number % 4) (omega arith)

-- ---- the program, by its statements

-- texts of numbers, none of which is longer than this
each_short : (text : ℕ → List ℕ) (most n : ℕ) → ((k : ℕ) → length (text k) ≤ most) → length (each text n) ≤ n * most
each_short text most zero h = omega arith
each_short text most (suc n) h =
    let more : suc n * most ≡ n * most + most = grind arith in
    omega (arith, length-append (each text n) (text n), each_short text most n h, h n)

digit_short : (n : ℕ) → n < 8 → length (decimal n) ≤ 1
digit_short n lt = length-decimal-le 1 n (omega arith) (omega arith) (omega arith)

sign_short : (x : ℕ) → length (sign x) ≡ 1
sign_short x = step (x / 8192 % 2 == 1)
  where
    step : (b : Bool) → length {A = ℕ} (if b then 45 ∷ [] else 43 ∷ []) ≡ 1
    step true = refl
    step false = refl

statement_short : (x : ℕ) → length (statement_line x) ≤ 14
unfolding statement_line
statement_short x =
    let a = digit_short (x / 16 % 8) (omega arith) in
    let b = digit_short (x / 128 % 8) (omega arith) in
    let c = digit_short (x / 1024 % 8) (omega arith) in
    let s = sign_short x in
    simp length-append (omega arith)

pub src_short : (number : ℕ) → number ≤ 1000 → length (src_text number) < 4294967296
unfolding src_text
src_short number few =
    let body = each_short (λ j. statement_line (drawn number (j + 1))) 14 number (λ j. statement_short (drawn number (j + 1))) in
    simp length-append (omega arith)
