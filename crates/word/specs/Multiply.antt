-- mullhw and mullhwu (9.4.58, 9.4.59), products of bits 16:31 of two words; mulli and mullw (9.4.60, 9.4.61), of whole words.
use Rattle.std.specs.Prelude.{ℕ, ◌*◌, ◌%◌, ◌^◌, ◌*ℤ◌}
use Rattle.word.specs.Sign.{exts, signed, leaves_range}
use Rattle.word.specs.declared.multiply.Product.{Product}

-- the 32 bits of the signed product
abbrev pub mullhw : ℕ → ℕ → ℕ
mullhw a b = exts 16 (a % 2 ^ 16) * exts 16 (b % 2 ^ 16) % 2 ^ 32

abbrev pub mullhwu : ℕ → ℕ → ℕ
mullhwu a b = a % 2 ^ 16 * (b % 2 ^ 16)

-- the least significant 32 bits of the product, the same whether the words are taken as signed or unsigned numbers
abbrev pub low_word : ℕ → ℕ → ℕ
low_word a b = a * b % 2 ^ 32

-- overflow: the signed product cannot be represented in 32 bits
abbrev pub mullw : ℕ → ℕ → Product
mullw a b = record { value = low_word a b; overflow = leaves_range (signed a *ℤ signed b) }
