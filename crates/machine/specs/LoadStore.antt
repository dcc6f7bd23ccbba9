-- Loads and stores (9.4.38 to 9.4.51, 9.4.82 to 9.4.95). Nothing is written before the access is known to be served (4.3.3).
use Rattle.std.specs.Prelude.{ℕ, ◌+◌, ◌%◌, ◌^◌, Bool, true, false, List, length, Ok, Err}
use Rattle.word.specs.Sign.{exts}
use Rattle.word.specs.Width.{bytes}
use Rattle.word.specs.declared.width.Width.{Width}
use Rattle.memory.specs.Access.{Access, pick, access_of, reaches_past}
use Rattle.memory.specs.Load.{Loaded, load_of, load_double_of}
use Rattle.memory.specs.Store.{stored_of, stored_double_of}
use Rattle.insn.specs.declared.instr.LoadStore.{LoadStore}
use Rattle.insn.specs.declared.profile.Profile.{Profile}
use Rattle.machine.specs.State.{gpr_of, base_of, vdr_of, with_gpr, with_vdr}
use Rattle.machine.specs.Interrupt.{cause_of, interrupted_of}
use Rattle.machine.specs.Result.{next_of}
use Rattle.machine.specs.After.{After}
use Rattle.machine.specs.declared.state.State.{State}

-- EA ← (RA|0) + EXTS(D); update forms, where EA ← (RA) + EXTS(D), have no RA 0
unfoldable pub offset_ea : State → ℕ → ℕ → ℕ
offset_ea s ra d = (base_of s ra + exts 16 d) % 2 ^ 32

-- EA ← (RA|0) + (RB)
unfoldable pub indexed_ea : State → ℕ → ℕ → ℕ
indexed_ea s ra rb = (base_of s ra + gpr_of s rb) % 2 ^ 32

-- (RA) ← EA in update forms
unfoldable pub updated_of : State → Bool → ℕ → ℕ → State
updated_of s update ra ea = pick update (with_gpr s ra ea) s

-- the value in RT, or the interrupt
abbrev pub loaded_state : Profile → State → Loaded → ℕ → Bool → ℕ → ℕ → State
loaded_state p s (Ok v) rt update ra ea = next_of (with_gpr (updated_of s update ra ea) rt v)
loaded_state p s (Err f) rt update ra ea = interrupted_of p s (cause_of f ea false)

unfoldable pub load_at : Profile → State → List ℕ → Width → ℕ → ℕ → Bool → ℕ → After
load_at p s m w rt ea update ra =
    record {
      st = loaded_state p s (load_of m ea w) rt update ra ea;
      mem = m;
      past = reaches_past (access_of (length m) ea (bytes w));
    }

abbrev pub stored_state : Profile → State → Access → Bool → ℕ → ℕ → State
stored_state p s (Ok u) update ra ea = next_of (updated_of s update ra ea)
stored_state p s (Err f) update ra ea = interrupted_of p s (cause_of f ea true)

-- the last bytes of (RS)
unfoldable pub store_at : Profile → State → List ℕ → Width → ℕ → ℕ → Bool → ℕ → After
store_at p s m w rs ea update ra =
    record {
      st = stored_state p s (access_of (length m) ea (bytes w)) update ra ea;
      mem = stored_of m ea w (gpr_of s rs);
      past = reaches_past (access_of (length m) ea (bytes w));
    }

-- lvd and lvdu (9.4.46, 9.4.47): the doubleword in DT, or the interrupt; EA is computed first, so RA of lvd may be one of the two
abbrev pub loaded_double_state : Profile → State → Loaded → ℕ → Bool → ℕ → ℕ → State
loaded_double_state p s (Ok v) dt update ra ea = next_of (with_vdr (updated_of s update ra ea) dt v)
loaded_double_state p s (Err f) dt update ra ea = interrupted_of p s (cause_of f ea false)

unfoldable pub load_double_at : Profile → State → List ℕ → ℕ → ℕ → Bool → ℕ → After
load_double_at p s m dt ea update ra =
    record {
      st = loaded_double_state p s (load_double_of m ea) dt update ra ea;
      mem = m;
      past = reaches_past (access_of (length m) ea 8);
    }

-- stvd and stvdu (9.4.90, 9.4.91): (DS), with RA as it was where that is one of the two
unfoldable pub store_double_at : Profile → State → List ℕ → ℕ → ℕ → Bool → ℕ → After
store_double_at p s m ds ea update ra =
    record {
      st = stored_state p s (access_of (length m) ea 8) update ra ea;
      mem = stored_double_of m ea (vdr_of s ds);
      past = reaches_past (access_of (length m) ea 8);
    }

unfoldable pub load_store_of : Profile → State → List ℕ → LoadStore → After
load_store_of p s m (LoadStore.Load w update rt ra d) = load_at p s m w rt (offset_ea s ra d) update ra
load_store_of p s m (LoadStore.LoadIndexed w rt ra rb) = load_at p s m w rt (indexed_ea s ra rb) false ra
load_store_of p s m (LoadStore.Store w update rs ra d) = store_at p s m w rs (offset_ea s ra d) update ra
load_store_of p s m (LoadStore.StoreIndexed w rs ra rb) = store_at p s m w rs (indexed_ea s ra rb) false ra
load_store_of p s m (LoadStore.LoadDouble update dt ra d) = load_double_at p s m dt (offset_ea s ra d) update ra
load_store_of p s m (LoadStore.StoreDouble update ds ra d) = store_double_at p s m ds (offset_ea s ra d) update ra
