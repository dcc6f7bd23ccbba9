-- Files of S-records, each with its answer from 32 bytes of memory, and one with the memory it leaves; a memory, and its file. Assumes
-- nothing.
use Prim.Native.Nat.{ℕ}
use Prim.Native.String.{String}
use mathlib.Core.Path.{◌≡◌, refl}
use mathlib.Core.List.{List, [], ◌∷◌, ◌++◌, map}
use lib.ListN.{replicate}
use Rattle.memory.specs.Access.{sized_of}
use Rattle.memory.specs.Store.{bytes_of}
use Rattle.syntax.specs.Text.{bytes}
use Rattle.machine.specs.declared.refusal.Refusal.{Refusal}
use Rattle.srecord.specs.Hex.{letter_of, digit_of, joined, pair_at, bytes_at, all_bytes, sum_of, number_from}
use Rattle.srecord.specs.Record.{lines_of, width_of, ends_at, room_for, headed_at, formed_at, held_at, record_at}
use Rattle.srecord.specs.File.{places, is_in, any_in, check_data, check_end, check_count, check_record, check_line, after, after_line, Verdict, refused_at, good, verdict, put, placed, read_of, memory_of}
use Rattle.srecord.specs.Write.{hex_digit, hexes, check_of, text_of, block_text, end_text, blocks, file_of}

-- a line, ended either way
abbrev lf : String → List ℕ
lf s = bytes s ++ (10 ∷ [])

abbrev crlf : String → List ℕ
crlf s = bytes s ++ (13 ∷ 10 ∷ [])

infix 20 ◌gives◌
pub data Case : Type 0 where
  ◌gives◌ : List ℕ → Verdict → Case

abbrev pub computed : Case → Verdict
computed (f gives v) = read_of 32 f

abbrev pub printed : Case → Verdict
printed (f gives v) = v

abbrev pub files : List Case
files =
    -- each type; a heading, a count, a carriage return, hex of either case
    ((lf "S005000048446E" ++ crlf "S10600040102ab47" ++ lf "S5030001FB" ++ lf "S9030000FC") gives good)
    ∷ ((lf "S20500000007F3" ++ lf "S804000000FB") gives good)
    ∷ ((lf "S3060000001F07D3" ++ lf "S70500000000FA") gives good)
    -- no data: any end, of any address
    ∷ ((lf "S804000000FB") gives good)
    ∷ ((lf "S70512345678E6") gives good)
    -- a record of no bytes may have any address, counts and fixes the type
    ∷ ((lf "S305FFFFFFFFFE" ++ lf "S5030001FB" ++ lf "S70500000000FA") gives good)
    ∷ ((lf "S1030000FC" ++ lf "S804000000FB") gives refused_at 2 Refusal.End)
    -- 13: an empty line, no line feed, a lower-case s, S4, an odd digit, a blank
    ∷ ((lf "" ++ lf "S9030000FC") gives refused_at 1 Refusal.Record)
    ∷ ((bytes "S9030000FC") gives refused_at 1 Refusal.Record)
    ∷ ((lf "s104000001FA" ++ lf "S9030000FC") gives refused_at 1 Refusal.Record)
    ∷ ((lf "S4030000FC" ++ lf "S9030000FC") gives refused_at 1 Refusal.Record)
    ∷ ((lf "S104000001FA0" ++ lf "S9030000FC") gives refused_at 1 Refusal.Record)
    ∷ ((lf "S104000001FA " ++ lf "S9030000FC") gives refused_at 1 Refusal.Record)
    -- 13: a wrong check byte, and one that leaves out the count
    ∷ ((lf "S104000001FB" ++ lf "S9030000FC") gives refused_at 1 Refusal.Record)
    ∷ ((lf "S104000001FE" ++ lf "S9030000FC") gives refused_at 1 Refusal.Record)
    -- 13: data in an S5, data of another type, a line after the end
    ∷ ((lf "S504000001FA" ++ lf "S9030000FC") gives refused_at 1 Refusal.Record)
    ∷ ((lf "S104000001FA" ++ lf "S20500000101F8" ++ lf "S9030000FC") gives refused_at 2 Refusal.Record)
    ∷ ((lf "S9030000FC" ++ lf "S9030000FC") gives refused_at 2 Refusal.Record)
    -- 14: the last byte outside, and an address that does not wrap
    ∷ ((lf "S105001F0102D8" ++ lf "S9030000FC") gives refused_at 1 Refusal.Outside)
    ∷ ((lf "S307FFFFFFFF0102F9" ++ lf "S70500000000FA") gives refused_at 1 Refusal.Outside)
    -- 15: one byte of two
    ∷ ((lf "S10500000102F7" ++ lf "S104000103F7" ++ lf "S9030000FC") gives refused_at 2 Refusal.Twice)
    -- 16: the end of another type, none, an empty file
    ∷ ((lf "S104000001FA" ++ lf "S804000000FB") gives refused_at 2 Refusal.End)
    ∷ ((lf "S104000001FA") gives refused_at 2 Refusal.End)
    ∷ (([]) gives refused_at 1 Refusal.End)
    -- 17: one too many, and a heading counted
    ∷ ((lf "S104000001FA" ++ lf "S5030002FA" ++ lf "S9030000FC") gives refused_at 2 Refusal.Count)
    ∷ ((lf "S0030000FC" ++ lf "S104000001FA" ++ lf "S5030002FA" ++ lf "S9030000FC") gives refused_at 3 Refusal.Count)
    -- two on one line: 13 before 14, 14 before 15; two on two lines: the first
    ∷ ((lf "S104000001FA" ++ lf "S20500002801D1" ++ lf "S9030000FC") gives refused_at 2 Refusal.Record)
    ∷ ((lf "S104001F01DB" ++ lf "S105001F0102D8" ++ lf "S9030000FC") gives refused_at 2 Refusal.Outside)
    ∷ ((lf "S10500000102F7" ++ lf "S104000103F7" ++ lf "x") gives refused_at 2 Refusal.Twice)
    ∷ []

pub files_hold : map computed files ≡ map printed files
unfolding bytes letter_of digit_of joined pair_at bytes_at all_bytes sum_of number_from lines_of width_of ends_at room_for headed_at formed_at held_at record_at places is_in any_in check_data check_end check_count check_record check_line after after_line verdict sized_of read_of
files_hold = refl

-- three bytes at address 4, and the others as they were
pub file_stored : memory_of (replicate 32 0xEE) (lf "S10600040102AB47" ++ lf "S9030000FC") ≡ replicate 4 0xEE ++ (1 ∷ 2 ∷ 0xAB ∷ []) ++ replicate 25 0xEE
unfolding bytes letter_of digit_of joined pair_at bytes_at all_bytes sum_of number_from lines_of width_of ends_at room_for headed_at formed_at held_at record_at places is_in any_in check_data check_end check_count check_record check_line after after_line verdict put placed sized_of read_of memory_of
file_stored = refl

-- 32 bytes of memory, the first a branch to itself, as a file
pub memory_written : file_of (0x48 ∷ replicate 31 0) ≡ lf "S32500000000480000000000000000000000000000000000000000000000000000000000000092" ++ lf "S70500000000FA"
unfolding bytes file_of blocks block_text end_text text_of hexes hex_digit check_of sum_of bytes_of
memory_written = refl
