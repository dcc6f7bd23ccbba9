-- Stack frames (9.4.45, 9.4.89): several accesses, one after the other. What was read or written before one that is not served stays so (docs/DECISIONS.md D46).
use Rattle.std.specs.Prelude.{ℕ, ◌+◌, ◌-◌, ◌*◌, ◌/◌, ◌%◌, ◌^◌, Bool, true, false, List, [], ◌∷◌, eqb, ltb, length, Result, Ok, Err}
use Rattle.std.specs.Result.{result_and}
use Rattle.std.proofs.lemmas.List.Edits.{sets}
use Rattle.word.specs.Sign.{exts}
use Rattle.word.specs.declared.width.Width.{Width}
use Rattle.memory.specs.Access.{Access, pick, aligned_of, access_of, reaches_past}
use Rattle.memory.specs.Load.{Loaded, value_at, double_at, load_of, load_double_of}
use Rattle.memory.specs.Store.{bytes_of, double_bytes, stored_of, stored_double_of}
use Rattle.memory.specs.declared.access.Fault.{Fault}
use Rattle.insn.specs.Valid.{paired_with}
use Rattle.insn.specs.declared.instr.StackOp.{StackOp}
use Rattle.insn.specs.declared.profile.Profile.{Profile}
use Rattle.machine.specs.State.{gpr_of, vdr_of, with, with_gpr}
use Rattle.machine.specs.Interrupt.{cause_of, interrupted_of}
use Rattle.machine.specs.Result.{next_of}
use Rattle.machine.specs.After.{After, plain}
use Rattle.machine.specs.declared.state.State.{State}
use Rattle.machine.specs.declared.state.Reg.{Reg}
use Rattle.machine.specs.declared.interrupt.Cause.{Cause}
use Rattle.machine.specs.declared.stack.Frame.{Frame}
use Rattle.machine.specs.declared.stack.Missed.{Missed}

-- EA ← (RA) + EXTS(DD ‖ 000)
unfoldable pub frame_ea : State → ℕ → ℕ → ℕ
frame_ea s ra dd = (gpr_of s ra + exts 16 (dd * 2 ^ 3 % 2 ^ 16)) % 2 ^ 32

-- n, the doublewords between the two headers: DD - 1, and ¬DD
abbrev pub doublewords : StackOp → ℕ → ℕ
doublewords StackOp.Lsku dd = dd - 1
doublewords StackOp.Stsku dd = 2 ^ 13 - 1 - dd

-- RA, (RA), EA and n
abbrev pub frame_of : State → StackOp → ℕ → ℕ → Frame
frame_of s op ra dd = record { ra = ra; sp = gpr_of s ra; ea = frame_ea s ra dd; n = doublewords op dd }

-- one access of a frame, and its address: a pair by its first GPR, LR, the back pointer
pub data Part : Type 0 where
  pair : ℕ → ℕ → Part
  link : ℕ → Part
  back : ℕ → Part

abbrev pub address_of : Part → ℕ
address_of (pair n a) = a
address_of (link a) = a
address_of (back a) = a

abbrev pub size_of : Part → ℕ
size_of (pair n a) = 8
size_of (link a) = 4
size_of (back a) = 4

-- below the header at an address VDR30 if n > 0, and below that VDR28 if n > 1
abbrev pub second_pair : ℕ → ℕ → List Part → List Part
second_pair top n xs = pick (ltb 1 n) (pair 28 ((top + (2 ^ 32 - 16)) % 2 ^ 32) ∷ xs) xs

abbrev pub pairs : ℕ → ℕ → List Part → List Part
pairs top n xs = pick (ltb 0 n) (pair 30 ((top + (2 ^ 32 - 8)) % 2 ^ 32) ∷ second_pair top n xs) xs

-- the accesses in their order, of a frame with (RA), EA and n
abbrev pub parts_of : StackOp → ℕ → ℕ → ℕ → List Part
parts_of StackOp.Lsku sp ea n = pairs ea n (link ((ea + 4) % 2 ^ 32) ∷ [])
parts_of StackOp.Stsku sp ea n = link ((sp + 4) % 2 ^ 32) ∷ pairs sp n (back ea ∷ [])

-- lsku loads a pair but for RA, then LR
abbrev pub read_gpr : State → ℕ → ℕ → ℕ → State
read_gpr s ra n v = pick (eqb n ra) s (with_gpr s n v)

abbrev pub popped : ℕ → Part → List ℕ → State → State
popped ra (pair n a) m s = read_gpr (read_gpr s ra n (double_at m a / 2 ^ 32)) ra (paired_with n) (double_at m a % 2 ^ 32)
popped ra (link a) m s = with s Reg.Lr (value_at Width.Word m a)
popped ra (back a) m s = s

-- stsku stores LR, pairs, and RS, which is RA, as the back pointer
abbrev pub pushed : ℕ → Part → State → List ℕ
pushed rs (pair n a) s = double_bytes (vdr_of s n)
pushed rs (link a) s = bytes_of Width.Word s.lr
pushed rs (back a) s = bytes_of Width.Word (gpr_of s rs)

abbrev pub state_after : StackOp → ℕ → Part → State → List ℕ → State
state_after StackOp.Lsku ra x s m = popped ra x m s
state_after StackOp.Stsku ra x s m = s

abbrev pub memory_after : StackOp → ℕ → Part → State → List ℕ → List ℕ
memory_after StackOp.Lsku ra x s m = m
memory_after StackOp.Stsku ra x s m = sets m (address_of x) (pushed ra x s)

abbrev pub stores_of : StackOp → Bool
stores_of StackOp.Lsku = false
stores_of StackOp.Stsku = true

-- EDR gets EA of lsku and the old (RA) of stsku
abbrev pub scratch_of : StackOp → ℕ → ℕ → ℕ
scratch_of StackOp.Lsku sp ea = ea
scratch_of StackOp.Stsku sp ea = sp

-- an access: what comes after it, or the interrupt, with that address in EDR
abbrev pub goes_on : Profile → State → List ℕ → Bool → ℕ → Access → After → After
goes_on p s m store a (Ok u) rest = rest
goes_on p s m store a (Err f) rest = record { st = interrupted_of p s (cause_of f a store); mem = m; past = reaches_past {A = Unit} (Err f) }

-- one access after the other; then EDR and (RA) ← EA
unfoldable pub framed_of : Profile → StackOp → ℕ → ℕ → ℕ → List Part → State → List ℕ → After
framed_of p op ra sp ea [] s m = plain (next_of (with_gpr (with s Reg.Edr (scratch_of op sp ea)) ra ea)) m
framed_of p op ra sp ea (x ∷ xs) s m =
    goes_on p s m (stores_of op) (address_of x) (access_of (length m) (address_of x) (size_of x))
    (framed_of p op ra sp ea xs (state_after op ra x s m) (memory_after op ra x s m))

-- (RA) is to be doubleword-aligned, whatever the board serves
unfoldable pub stack_of : Profile → State → List ℕ → StackOp → ℕ → ℕ → After
stack_of p s m op ra dd =
    let sp = gpr_of s ra in
    let ea = frame_ea s ra dd in
    pick (aligned_of sp 8) (framed_of p op ra sp ea (parts_of op sp ea (doublewords op dd)) s m)
    (plain (interrupted_of p s (Cause.Alignment sp (stores_of op))) m)

-- an access, or why it is not served and its address
abbrev pub served_at : Access → ℕ → Result Unit Missed
served_at (Ok u) a = Ok tt
served_at (Err f) a = Err (record { fault = f; address = a })

-- all that are served, or the first that is not
unfoldable pub parts_served : ℕ → List Part → Result Unit Missed
parts_served len [] = Ok tt
parts_served len (x ∷ xs) = result_and (served_at (access_of len (address_of x) (size_of x)) (address_of x)) (parts_served len xs)

-- of a whole frame with (RA), EA and n, in so many bytes of memory
unfoldable pub frame_served : ℕ → StackOp → ℕ → ℕ → ℕ → Result Unit Missed
frame_served len op sp ea n = pick (aligned_of sp 8) (parts_served len (parts_of op sp ea n)) (Err (record { fault = Fault.Unaligned; address = sp }))

-- one is not that fell outside
abbrev pub frame_past : Result Unit Missed → Bool
frame_past (Ok u) = false
frame_past (Err missed) = reaches_past {A = Unit} (Err missed.fault)

-- one access of lsku, by what it loads: the state that it leaves, or the state after its interrupt
abbrev pub loads_on : Profile → State → ℕ → (ℕ → State) → Loaded → Result State State
loads_on p s a put (Ok v) = Ok (put v)
loads_on p s a put (Err f) = Err (interrupted_of p s (cause_of f a false))

abbrev pub part_popped : Profile → ℕ → Part → List ℕ → State → Result State State
part_popped p ra (pair n a) m s = loads_on p s a (λ v. read_gpr (read_gpr s ra n (v / 2 ^ 32)) ra (paired_with n) (v % 2 ^ 32)) (load_double_of m a)
part_popped p ra (link a) m s = loads_on p s a (λ v. with s Reg.Lr v) (load_of m a Width.Word)
part_popped p ra (back a) m s = loads_on p s a (λ v. s) (load_of m a Width.Word)

-- all accesses of lsku in a row, without EDR and RA at the end
abbrev pub then : Result State State → (State → Result State State) → Result State State
then (Ok t) f = f t
then (Err t) f = Err t

unfoldable pub parts_popped : Profile → ℕ → List Part → List ℕ → State → Result State State
parts_popped p ra [] m s = Ok s
parts_popped p ra (x ∷ xs) m s = then (part_popped p ra x m s) (parts_popped p ra xs m)

-- what one access of stsku leaves in memory, served or not
abbrev pub part_pushed : ℕ → Part → State → List ℕ → List ℕ
part_pushed rs (pair n a) s m = stored_double_of m a (vdr_of s n)
part_pushed rs (link a) s m = stored_of m a Width.Word s.lr
part_pushed rs (back a) s m = stored_of m a Width.Word (gpr_of s rs)

-- the memory b after an access, or what comes after it leaves
abbrev pub stores_on : Result Unit Missed → List ℕ → List ℕ → List ℕ
stores_on (Ok u) b rest = rest
stores_on (Err missed) b rest = b

-- and all accesses of stsku in a row
unfoldable pub parts_pushed : ℕ → List Part → State → List ℕ → List ℕ
parts_pushed rs [] s m = m
parts_pushed rs (x ∷ xs) s m =
    stores_on (served_at (access_of (length m) (address_of x) (size_of x)) (address_of x)) (part_pushed rs x s m)
    (parts_pushed rs xs s (part_pushed rs x s m))
