-- The state of a core: sixteen GPRs, the eighteen other registers (8.3, 8.5, 8.6), IAR and the halt code; and each register written alone.
use Rattle.std.specs.Prelude.{ℕ, ◌+◌, ◌*◌, ◌/◌, ◌%◌, ◌^◌, Bool, cond, List, [], ◌∷◌, eqb, get_or, set}
use Rattle.insn.specs.Valid.{paired_with}
use Rattle.machine.specs.declared.state.State.{State}
use Rattle.machine.specs.declared.state.Reg.{Reg}

-- where GPR(n) stands among the sixteen (Table 1.32): r0 to r10, r13, r28 to r31
abbrev pub place_of : ℕ → ℕ
place_of n = cond (eqb n 13) 11 (n % 16)

-- (Rx) of 1.2: the contents of a GPR
unfoldable pub gpr_of : State → ℕ → ℕ
gpr_of s n = get_or s.gpr (place_of n) 0

-- (RA|0) of 1.2: the contents of RA, or 0 if RA is 0
unfoldable pub base_of : State → ℕ → ℕ
base_of s n = cond (eqb n 0) 0 (gpr_of s n)

-- (VDR(n)) of 1.2: GPR(n) has the high-order word, the GPR that it is paired with the low-order one (8.4)
unfoldable pub vdr_of : State → ℕ → ℕ
vdr_of s n = gpr_of s n * 2 ^ 32 + gpr_of s (paired_with n)

-- the contents of any other register, of IAR and of the halt code
abbrev pub contents_of : State → Reg → ℕ
contents_of s Reg.Cr = s.cr
contents_of s Reg.Ctr = s.ctr
contents_of s Reg.Dacr = s.dacr
contents_of s Reg.Dbcr = s.dbcr
contents_of s Reg.Dec = s.dec
contents_of s Reg.Edr = s.edr
contents_of s Reg.Isr = s.isr
contents_of s Reg.Ivpr = s.ivpr
contents_of s Reg.Lr = s.lr
contents_of s Reg.Msr = s.msr
contents_of s Reg.Pir = s.pir
contents_of s Reg.Pvr = s.pvr
contents_of s Reg.Sprg0 = s.sprg0
contents_of s Reg.Srr0 = s.srr0
contents_of s Reg.Srr1 = s.srr1
contents_of s Reg.Tcr = s.tcr
contents_of s Reg.Tsr = s.tsr
contents_of s Reg.Xer = s.xer
contents_of s Reg.Iar = s.iar
contents_of s Reg.Halt = s.halt

-- these registers in the order of a capture
abbrev pub registers : List Reg
registers =
    Reg.Cr ∷ Reg.Ctr ∷ Reg.Dacr ∷ Reg.Dbcr ∷ Reg.Dec ∷ Reg.Edr ∷ Reg.Isr ∷ Reg.Ivpr ∷ Reg.Lr ∷ Reg.Msr ∷ Reg.Pir ∷ Reg.Pvr ∷ Reg.Sprg0 ∷ Reg.Srr0 ∷ Reg.Srr1 ∷ Reg.Tcr ∷ Reg.Tsr ∷ Reg.Xer
    ∷ Reg.Iar ∷ Reg.Halt ∷ []

-- and the place of each among them
abbrev pub order_of : Reg → ℕ
order_of Reg.Cr = 0
order_of Reg.Ctr = 1
order_of Reg.Dacr = 2
order_of Reg.Dbcr = 3
order_of Reg.Dec = 4
order_of Reg.Edr = 5
order_of Reg.Isr = 6
order_of Reg.Ivpr = 7
order_of Reg.Lr = 8
order_of Reg.Msr = 9
order_of Reg.Pir = 10
order_of Reg.Pvr = 11
order_of Reg.Sprg0 = 12
order_of Reg.Srr0 = 13
order_of Reg.Srr1 = 14
order_of Reg.Tcr = 15
order_of Reg.Tsr = 16
order_of Reg.Xer = 17
order_of Reg.Iar = 18
order_of Reg.Halt = 19

-- whether two are one
abbrev pub same : Reg → Reg → Bool
same q r = eqb (order_of q) (order_of r)

-- the state with these GPRs and these contents
abbrev pub holding : List ℕ → (Reg → ℕ) → State
holding g c =
    record {
      gpr = g;
      cr = c Reg.Cr;
      ctr = c Reg.Ctr;
      dacr = c Reg.Dacr;
      dbcr = c Reg.Dbcr;
      dec = c Reg.Dec;
      edr = c Reg.Edr;
      isr = c Reg.Isr;
      ivpr = c Reg.Ivpr;
      lr = c Reg.Lr;
      msr = c Reg.Msr;
      pir = c Reg.Pir;
      pvr = c Reg.Pvr;
      sprg0 = c Reg.Sprg0;
      srr0 = c Reg.Srr0;
      srr1 = c Reg.Srr1;
      tcr = c Reg.Tcr;
      tsr = c Reg.Tsr;
      xer = c Reg.Xer;
      iar = c Reg.Iar;
      halt = c Reg.Halt;
    }

-- GPR(n) written, and nothing else
unfoldable pub with_gpr : State → ℕ → ℕ → State
with_gpr s n v = holding (set s.gpr (place_of n) v) (contents_of s)

-- VDR(n) written: its two GPRs, and nothing else
unfoldable pub with_vdr : State → ℕ → ℕ → State
with_vdr s n v = with_gpr (with_gpr s n (v / 2 ^ 32)) (paired_with n) (v % 2 ^ 32)

-- one of the others written, and nothing else
unfoldable pub with : State → Reg → ℕ → State
with s q v = holding s.gpr (λ r. cond (same q r) v (contents_of s r))
