-- What stays of a list while the session of its last test ends.
use Rattle.std.proofs.Common.{◌≡◌, ◌≢◌, ◌∙◌, ◌⊎◌, ℕ, ◌+◌, ◌*◌, ◌^◌, ◌-◌, ◌<◌, ◌≤◌, min, [], refl, sym, ap, subst, inl, inr, arith, Ok, Err}
use Rattle.std.proofs.{lemmas.Bool.cases_lt, Math.Nat.min-le_left}
use Rattle.base_io.specs.Vocabulary.{StoreState, SinkState}
use Rattle.machine_shape.specs.declared.Shape.{Shape}
use Rattle.machine_defects.specs.Lists.{DefectList}
use Rattle.rig.specs.{Rig.RigState, Rig.Machine, Rig.LoadFails, Rig.Narrows, Rig.Tells, Rig.cycles_made, declared.rig.RigFail.RigFail}
use Rattle.rig.specs.declared.rig.RigFail.TheVariants as work
use Rattle.diag_evidence.specs.Kept.{FewCycles, HasFew, TakesFewCycles, most_cycles}
use Rattle.diag_evidence.proofs.Fewer.{few_load, few_still}
use Rattle.diag_list.specs.{Lists.lists_now, Possible.TakesFewLoadsOn}
use Rattle.diag_list.proofs.ListedLemmas.{listed-on}
use Rattle.cmd_steps.specs.Vocabulary.{outside, IsLater, IsCounted, LoadsOnce, StepStops, stop_of_rig, Took}
use Rattle.cmd_steps.proofs.Logs.{log_kept}
use Rattle.cmd_steps.proofs.Making.{took-quietly, stopped-quietly}
use Rattle.cmd_steps.proofs.Taking.{later-later}
use Rattle.diag_settled.specs.Settled.{HasLoadLeft}

-- ---- numbers

pub one-more : (a b : ℕ) → LoadsOnce a b → b ≤ a + 1
one-more a b (inl same) = omega (arith, same)
one-more a b (inr next) = let few = min-le_left (a + 1) (2 ^ 64 - 1) in omega (arith, next, few)

less : (a b : ℕ) → a ≤ b → a ≢ b → a < b
less a b few other = by (cases_lt a b)
  where
    by : (a < b) ⊎ (b ≤ a) → a < b
    by (inl is) = is
    by (inr more) = absurd (other (omega (arith, few, more)))

-- ---- a session ends

-- what a load of nothing leaves
pub record Settles (old new : RigState) : Type 0 where
  pub machine : new.machine ≡ old.machine
  pub later : old.failures ≤ new.failures
  pub narrows : Narrows old new
  pub tells : Tells old new
  pub once : LoadsOnce old.loads new.loads
  pub cycles : cycles_made new ≡ cycles_made old

module _ (r1 r2 : RigState) (settles : Settles r1 r2) where
  -- nothing but the rig was used
  pub settled-later : (s : StoreState) (k : SinkState) → IsLater (outside s r1 k) (outside s r2 k)
  settled-later s k = record {
    contents = refl;
    texts = ap (λ (x : Machine). x.texts) settles.machine;
    kind = refl;
    store = omega arith;
    rig = settles.later;
    sink = omega arith;
    log = log_kept settles.machine settles.narrows settles.tells;
  }

  -- the count of the failure that ended it rose since before
  pub settled-counted : (r0 : RigState) (s : StoreState) (k : SinkState) (fail : RigFail) → r0.failures ≤ r1.failures →
      LoadFails fail r1 r2 → IsCounted ⊥ (stop_of_rig fail) (outside s r0 k) (outside s r2 k)
  settled-counted r0 s k work.Failed before rose = omega (arith, before, rose)
  settled-counted r0 s k work.Memory before rose = tt

  few-more : FewCycles r1 r2
  few-more = by settles.once
    where
      by : LoadsOnce r1.loads r2.loads → FewCycles r1 r2
      by (inl same) = few_still r1 r2 settles.machine same (let made = settles.cycles in omega (arith, made))
      by (inr next) = few_load r1 r2 0 settles.machine next (let made = settles.cycles in omega (arith, made)) (omega arith)

  pub cycles-settled : (r0 : RigState) → r1.machine ≡ r0.machine → TakesFewCycles r0 r1 → TakesFewCycles r0 r2
  cycles-settled r0 same few room =
      let w = most_cycles r0.machine in
      let begun : HasFew (cycles_made r0) (w * r0.loads) r1 = record {
        at = λ first. subst (λ (m : Machine). cycles_made r1 + w * r0.loads ≤ cycles_made r0 + most_cycles m * r1.loads) (sym same) (few first);
      } in
      subst (λ (m : Machine). cycles_made r2 + w * r0.loads ≤ cycles_made r0 + most_cycles m * r2.loads) (settles.machine ∙ same)
      ((few-more (cycles_made r0) (w * r0.loads) begun).at room)

  module _ (m : Shape) (r0 : RigState) (left : HasLoadLeft m r0.loads r1.loads) where
    pub few-settled : TakesFewLoadsOn r1 m r0.loads r1.loads → TakesFewLoadsOn r2 m r0.loads r2.loads
    few-settled few =
        let one = one-more r1.loads r2.loads settles.once in
        record {
          always = (let most = left.always in omega (arith, one, most));
          faultless = λ f e none. (let under = less _ _ (few.faultless f (settles.narrows f e) none) left.faultless in omega (arith, one, under));
        }

    module _ (s : StoreState) (k : SinkState) (d : DefectList) (took : Took [] (lists_now m r0 r1) (Ok d) (outside s r0 k) (outside s r1 k)) where
      later : IsLater (outside s r0 k) (outside s r2 k)
      later = later-later (outside s r0 k) (outside s r1 k) (outside s r2 k) took.later (settled-later s k)

      few : TakesFewLoadsOn r2 m r0.loads r2.loads
      few = few-settled took.gives.few

      -- it did
      pub list-settled : Took [] (lists_now m r0 r2) (Ok d) (outside s r0 k) (outside s r2 k)
      list-settled =
          let stays = listed-on m r0.loads r1 r2 (record { list = d; loads = r1.loads }) took.gives settles.narrows in
          took-quietly (lists_now m r0 r2) later d (record { shape = stays.shape; kept = stays.kept; right = stays.right; few = few })

      fails : (fail : RigFail) → StepStops (lists_now m r0 r2) (stop_of_rig fail)
      fails work.Failed = (tt, few)
      fails work.Memory = (tt, few)

      -- or the rig failed, or memory was lacking
      pub list-unsettled : (fail : RigFail) → LoadFails fail r1 r2 →
          Took [] (lists_now m r0 r2) (Err (stop_of_rig fail)) (outside s r0 k) (outside s r2 k)
      list-unsettled fail refused =
          stopped-quietly (lists_now m r0 r2) later (stop_of_rig fail) (fails fail) (settled-counted r0 s k fail took.later.rig refused)
