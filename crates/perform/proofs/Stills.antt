-- What a load, a store, a clear or a frame leaves of the entries, the words that it may store to dropped. Assumes nothing.
use Prim.Native.Nat.{ℕ, ◌+◌, ◌/◌, ◌*◌, ◌%◌, ◌^◌, ◌-◌, ◌≤◌, ◌<◌}
use native.Mathlib.Omega.{arith}
use mathlib.Core.Bool.{Bool, true, false}
use mathlib.Core.Path.{◌≡◌, refl, ◌∙◌}
use mathlib.Core.List.{List, [], ◌∷◌}
use lib.Dec.{ltb}
use Rattle.word.specs.Width.{bytes}
use Rattle.word.specs.declared.width.Width.{Width}
use Rattle.memory.specs.Access.{pick, aligned_of}
use Rattle.memory.specs.Store.{stored_of, stored_double_of, cleared_of}
use Rattle.insn.specs.Fields.{fields_of}
use Rattle.insn.specs.declared.instr.LoadStore.{LoadStore}
use Rattle.insn.specs.declared.instr.StackOp.{StackOp}
use Rattle.insn.specs.declared.profile.Profile.{Profile}
use Rattle.insn.specs.declared.fields.Fields.{Fields}
use Rattle.machine.specs.After.{After, plain}
use Rattle.machine.specs.LoadStore.{load_store_of, load_at, load_double_at}
use Rattle.machine.specs.State.{gpr_of}
use Rattle.machine.specs.Stack.{pair, link, back, frame_ea, doublewords, stack_of}
use Rattle.machine.specs.declared.state.State.{State}
use Rattle.machine.proofs.Frames.{pop_memory}
use Rattle.marked.specs.Mark.{marked_of}
use Rattle.reading.specs.Form.{made_of}
use Rattle.reading.specs.declared.form.Form.{Form}
use Rattle.entries.specs.Tags.{tag_at, set_of, Fewer, Without}
use Rattle.entries.proofs.Drops.{fewer_yet, without_yet}
use Rattle.perform.specs.Performed.{found_of, performed_of, Framed, Still}
use Rattle.perform.proofs.Apart.{fetch_stored, fetch_stored_double, fetch_cleared, fetch_stack, width_fits, double_fits, PartsApart}

pub still_same : (t : List (List ℕ)) (m : List ℕ) → Still t t m m
unfolding Still
still_same t m s w a l p = (p, λ q. refl)

-- the memory k that a load leaves is as it was
module _ (t : List (List ℕ)) (m k : List ℕ) (p : Profile) (s : State) where
  pub still_load : (w : Width) (update : Bool) (rt ra d : ℕ) → k ≡ (load_store_of p s m (LoadStore.Load w update rt ra d)).mem → Still t t m k
  unfolding load_store_of load_at
  still_load w update rt ra d h = rw h (still_same t m)

  pub still_load_indexed : (w : Width) (rt ra rb : ℕ) → k ≡ (load_store_of p s m (LoadStore.LoadIndexed w rt ra rb)).mem → Still t t m k
  unfolding load_store_of load_at
  still_load_indexed w rt ra rb h = rw h (still_same t m)

  pub still_load_double : (update : Bool) (dt ra d : ℕ) → k ≡ (load_store_of p s m (LoadStore.LoadDouble update dt ra d)).mem → Still t t m k
  unfolding load_store_of load_double_at
  still_load_double update dt ra d h = rw h (still_same t m)

  pop_cases : (b : Bool) (x : After) (o : State) → x.mem ≡ m → (pick b x (plain o m)).mem ≡ m
  pop_cases true x o h = h
  pop_cases false x o h = refl

  pub still_pop : (ra dd : ℕ) → k ≡ (stack_of p s m StackOp.Lsku ra dd).mem → Still t t m k
  unfolding stack_of
  still_pop ra dd h = rw (h ∙ pop_cases (aligned_of (gpr_of s ra) 8) _ _ (pop_memory _ _ _ _ _ _ _)) (still_same t m)

-- and what a store, a clear or a frame leaves, by what was dropped
module _ (t u : List (List ℕ)) (m : List ℕ) where
  stored : (ea : ℕ) (w : Width) (v : ℕ) → Fewer t u × (ea % 4 + bytes w ≤ 8 → Without u ea (bytes w)) → Still t u m (stored_of m ea w v)
  unfolding Still Fewer Without
  stored ea w v d s k a l p = (d.0 s k a p, λ q. fetch_stored m ea a w v (λ z. d.1 (width_fits ea w) s k a l q z p))

  stored_double : (ea v : ℕ) → Fewer t u × (ea % 4 + 8 ≤ 8 → Without u ea 8) → Still t u m (stored_double_of m ea v)
  unfolding Still Fewer Without
  stored_double ea v d s k a l p = (d.0 s k a p, λ q. fetch_stored_double m ea a v (λ h z. d.1 (double_fits ea h) s k a l q z p))

  cleared : (ea : ℕ) → Fewer t u × Without u (ea / 32 * 32) 32 → Still t u m (cleared_of m ea)
  unfolding Still Fewer Without
  cleared ea d s k a l p = (d.0 s k a p, λ q. fetch_cleared m ea a (λ z. d.1 s k a l q z p))

  -- a frame has both pairs, the first, or none
  frame_cases : (sp ea s w a : ℕ) (b c : Bool) → Framed t u sp ea → w < 4 → set_of a ≡ s → tag_at u s w ≡ a + 1
      → PartsApart a (link ((sp + 4) % 2 ^ 32) ∷ pick b (pair 30 ((sp + (2 ^ 32 - 8)) % 2 ^ 32) ∷ pick c (pair 28 ((sp + (2 ^ 32 - 16)) % 2 ^ 32) ∷ back ea ∷ []) (back ea ∷ [])) (back ea ∷ []))
  unfolding Without
  frame_cases sp ea s w a true true f l q p = (
    λ h z. f.link s w a l q z p,
    (λ h z. f.first (double_fits ((sp + (2 ^ 32 - 8)) % 2 ^ 32) h) s w a l q z p, (λ h z. f.second (double_fits ((sp + (2 ^ 32 - 16)) % 2 ^ 32) h) s w a l q z p, (λ h z. f.back s w a l q z p, tt))),
  )
  frame_cases sp ea s w a true false f l q p = (λ h z. f.link s w a l q z p, (λ h z. f.first (double_fits ((sp + (2 ^ 32 - 8)) % 2 ^ 32) h) s w a l q z p, (λ h z. f.back s w a l q z p, tt)))
  frame_cases sp ea s w a false c f l q p = (λ h z. f.link s w a l q z p, (λ h z. f.back s w a l q z p, tt))

  stacked : (p : Profile) (s : State) (op : StackOp) (ra dd : ℕ) → Framed t u (gpr_of s ra) (frame_ea s ra dd) → Still t u m (stack_of p s m op ra dd).mem
  unfolding Still Fewer
  stacked p s op ra dd f k w a l e = (
    f.fewer k w a e,
    λ q. fetch_stack p s m op ra dd a (frame_cases (gpr_of s ra) (frame_ea s ra dd) k w a (ltb 0 (doublewords StackOp.Stsku dd)) (ltb 1 (doublewords StackOp.Stsku dd)) f l q e),
  )

  -- the same of the memory k, with what the dropped address e and size n are
  module _ (k : List ℕ) where
    pub still_stored : (e n ea : ℕ) (w : Width) (v : ℕ) → e ≡ ea → n ≡ bytes w → Fewer t u × (e % 4 + n ≤ 8 → Without u e n) → k ≡ stored_of m ea w v → Still t u m k
    still_stored e n ea w v q r d h = rw h (stored ea w v (rw (q, r) at d))

    pub still_stored_double : (e ea v : ℕ) → e ≡ ea → Fewer t u × (e % 4 + 8 ≤ 8 → Without u e 8) → k ≡ stored_double_of m ea v → Still t u m k
    still_stored_double e ea v q d h = rw h (stored_double ea v (rw q at d))

    pub still_cleared : (e ea : ℕ) → e ≡ ea → Fewer t u × Without u (e / 32 * 32) 32 → k ≡ cleared_of m ea → Still t u m k
    still_cleared e ea q d h = rw h (cleared ea (rw q at d))

    pub still_stack : (p : Profile) (s : State) (op : StackOp) (ra dd sp e : ℕ) → sp ≡ gpr_of s ra → e ≡ frame_ea s ra dd → Framed t u sp e → k ≡ (stack_of p s m op ra dd).mem → Still t u m k
    still_stack p s op ra dd sp e q r f h = rw h (stacked p s op ra dd (rw (q, r) at f))

-- the four parts of a frame, dropped one after the other
pub framed : (t0 t1 t2 t3 t4 : List (List ℕ)) (sp ea a b c : ℕ) → a ≡ (sp + 4) % 2 ^ 32 → b ≡ (sp + (2 ^ 32 - 8)) % 2 ^ 32 → c ≡ (sp + (2 ^ 32 - 16)) % 2 ^ 32
    → Fewer t0 t1 × (a % 4 + 4 ≤ 8 → Without t1 a 4)
    → Fewer t1 t2 × (b % 4 + 8 ≤ 8 → Without t2 b 8)
    → Fewer t2 t3 × (c % 4 + 8 ≤ 8 → Without t3 c 8)
    → Fewer t3 t4 × (ea % 4 + 4 ≤ 8 → Without t4 ea 4)
    → Framed t0 t4 sp ea
framed t0 t1 t2 t3 t4 sp ea a b c p q r d e f g =
    let last : Fewer t2 t4 = fewer_yet t2 t3 t4 f.0 g.0 in
    let after : Fewer t1 t4 = fewer_yet t1 t2 t4 e.0 last in
    record {
      fewer = fewer_yet t0 t1 t4 d.0 after;
      link = rw (← p) (without_yet t1 t4 a 4 after (d.1 (omega arith)));
      first = rw (← q) (λ h. without_yet t2 t4 b 8 last (e.1 h));
      second = rw (← r) (λ h. without_yet t3 t4 c 8 g.0 (f.1 h));
      back = g.1 (omega arith);
    }

-- what a word of the form g with the parts f leaves, where the form is g and the parts are the word's
pub performed : (t u : List (List ℕ)) (m k : List ℕ) (p : Profile) (s r : State) (w : ℕ) (form g : Form) (f : Fields) → form ≡ g → f ≡ fields_of w
    → r ≡ marked_of (found_of p s m w (made_of g f)) → k ≡ (found_of p s m w (made_of g f)).mem → Still t u m k
    → (r ≡ marked_of (performed_of p s m w form)) × ((k ≡ (performed_of p s m w form).mem) × Still t u m k)
unfolding performed_of
performed t u m k p s r w form g f e q h j l = rw (e, ← q) (h, (j, l))
