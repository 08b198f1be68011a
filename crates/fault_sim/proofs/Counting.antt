-- How many faults there are.
use Rattle.std.proofs.Common.{◌≡◌, ℕ, zero, suc, ◌+◌, ◌*◌, List, [], ◌∷◌, length, length-append, refl, ◌∙◌, arith}
use Rattle.net_model.specs.declared.hardware.Net.{Net}
use Rattle.fault_sim.specs.Reports.{bit_faults, bits_of, faults_from}

bits_counted : (n bit bits : ℕ) → length (bit_faults n bit bits) ≡ 2 * bits
bits_counted n bit zero = refl
bits_counted n bit (suc bits) = omega (arith, bits_counted n (bit + 1) bits)

pub faults_counted : (n : ℕ) (nets : List Net) → length (faults_from n nets) ≡ 2 * bits_of nets
faults_counted n [] = refl
faults_counted n (net ∷ nets) =
    length-append (bit_faults n 0 net.width) (faults_from (n + 1) nets)
    ∙ (let e : length (bit_faults n 0 net.width) + length (faults_from (n + 1) nets) ≡ 2 * (net.width + bits_of nets) = omega (arith, bits_counted n 0 net.width, faults_counted (n + 1) nets) in e)
