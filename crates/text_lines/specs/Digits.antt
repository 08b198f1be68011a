-- The hexadecimal digits of a word.
use Rattle.std.specs.Prelude.{ℕ, ◌+◌, ◌-◌, ◌/◌, List, drop}
use Rattle.std.specs.Int.{w64, to_be_bytes}
use Rattle.hex.specs.Hex.{encode_lower}

-- how many bytes so many bits fill
abbrev pub bytes_of : ℕ → ℕ
bytes_of bits = (bits + 7) / 8

-- the last bytes of a word in hexadecimal digits, the highest first
abbrev pub hex_of : ℕ → ℕ → List ℕ
hex_of bytes word = encode_lower (drop (8 - bytes) (to_be_bytes w64 word))
