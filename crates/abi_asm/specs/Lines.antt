-- What the C functions answer of lines, as numbers.
use Rattle.std.specs.Prelude.{ℕ, Ok, Err, ◌+◌, ◌*◌, ◌^◌, ◌≡◌, List}
use Rattle.word.specs.Bits.{digit}
use Rattle.insn.specs.declared.profile.Profile.{Profile}
use Rattle.asm.specs.Answer.{Assembled, Answer, refusal_of, column_of, word_in}
use Rattle.asm.specs.Listing.{Listed}
use Rattle.asm.specs.declared.disassemble.Unlisted.{Unlisted}

-- a line's answer as one number: the refusal, the column, the word
abbrev pub assembled_answer : Assembled → ℕ
assembled_answer a = refusal_of a * 2 ^ 48 + column_of a * 2 ^ 32 + word_in a

pub record Assembles (p : Profile) (line : List ℕ) (r : ℕ) : Type 0 where
  pub answer : Assembled
  pub given : Answer p line answer
  pub packed : r ≡ assembled_answer answer

-- a word's answer: 8 as a refusal; 0 for an illegal word; how many bytes the line has, and whether it leaves out a field that is set
abbrev pub listed_answer : Listed → ℕ
listed_answer (Err Unlisted.Short) = 8 * 2 ^ 48
listed_answer (Err Unlisted.Illegal) = 0
listed_answer (Ok l) = 2 ^ 32 + digit l.more * 2 ^ 33 + l.bytes
