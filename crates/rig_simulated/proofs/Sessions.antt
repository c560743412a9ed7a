-- What is kept of a session is the session.
use Rattle.std.proofs.Common.{◌≡◌, ◌⊎◌, inl, inr, ⊎_elim, ℕ, zero, suc, ◌<◌, Bool, true, false, cond, eqb, Option, Some, None, List, [], ◌∷◌, ◌++◌, length, get_or, map, refl, sym, ap, ◌∙◌, subst, arith, is_some, count_by, option_map}
use Rattle.rig_simulated.proofs.Vocabulary.{range_with_len, cases_Bool, eqb-true, eq-eqb, map-append, fill_by_all, Shape, Cross, tables_of}
use Rattle.rig_simulated.proofs.Vocabulary.{Faults, Pins, Setting, Exchange, Session, drives_of, readings_of, Gate, Board, Stands, AreGates}
use Rattle.rig_simulated.proofs.Vocabulary.{AreOutputs, IsLoaded, setting_in, config_in, cycles_in, GivesCycle, HasRun}
use Rattle.std.specs.FinSet as set_
use Rattle.std.specs.{FinSet.same_set, FinSet.nat_cmp-IsAntisymmetric, Cmp.nat_cmp_total}
use Rattle.machine_config.specs.Vocabulary.{Configuration, is_closed, setting_of, set_of, circuit_of, at_load, none}
use Rattle.machine_config.proofs.Members.{contains_times}
use Rattle.machine_config.proofs.Runs.{Cycles-push}
use Rattle.rig_simulated.specs.Sims.{IsRunning}

-- the first table of a number
here_is : (x : Gate) (xs : List Gate) (t : ℕ) → x.table.0 ≡ t → setting_in (x ∷ xs) t ≡ Some x.setting
here_is x xs t e = rw (eq-eqb x.table.0 t e) refl

later_is : (x : Gate) (xs : List Gate) (t : ℕ) → eqb x.table.0 t ≡ false → setting_in (x ∷ xs) t ≡ setting_in xs t
later_is x xs t e = rw e refl

module _ (g : Configuration) where
  HasSetting : Gate → Type 0
  HasSetting x = setting_of g x.table.0 ≡ Some x.setting

  found_right : (gates : List Gate) → ((k : ℕ) (d : Gate) → k < length gates → setting_of g (get_or gates k d).table.0 ≡ Some (get_or gates k d).setting) → (t : ℕ) → (setting_in gates t ≡ None) ⊎ (setting_in gates t ≡ setting_of g t)
  found_right [] are t = inl refl
  found_right (x ∷ xs) are t = ⊎_elim
      (λ e. inr (here_is x xs t (eqb-true x.table.0 t e) ∙ sym (are 0 x (omega arith)) ∙ ap (setting_of g) (eqb-true x.table.0 t e)))
      (λ e. ⊎_elim (λ n. inl (later_is x xs t e ∙ n)) (λ s. inr (later_is x xs t e ∙ s)) (found_right xs (λ k d h. are (suc k) d (omega (arith, h))) t))
      (cases_Bool (eqb x.table.0 t))

found_some : (gates : List Gate) (t k : ℕ) (d : Gate) → k < length gates → (get_or gates k d).table.0 ≡ t → setting_in gates t ≡ None → ⊥
found_some [] t k d h e lacks = absurd (omega arith)
found_some (x ∷ xs) t zero d h e lacks = let q = sym (here_is x xs t e) ∙ lacks in cc
found_some (x ∷ xs) t (suc k) d h e lacks = ⊎_elim
    (λ b. let q = sym (here_is x xs t (eqb-true x.table.0 t b)) ∙ lacks in cc)
    (λ b. found_some xs t k d (omega (arith, h)) e (sym (later_is x xs t b) ∙ lacks))
    (cases_Bool (eqb x.table.0 t))

module _ {f : Faults} {g : Configuration} {root : ℕ → ℕ} (gates : List Gate) (are : AreGates f g root gates) where
  pub setting_is : (t : ℕ) → setting_in gates t ≡ setting_of g t
  setting_is t = ⊎_elim (λ n. n ∙ by_option (setting_of g t) refl n) (λ e. e) (found_right g gates (λ k d h. (are.each k d h).setting) t)
    where
      by_option : (o : Option Setting) → setting_of g t ≡ o → setting_in gates t ≡ None → None ≡ setting_of g t
      by_option None e n = sym e
      by_option (Some s) e n = let st = are.all t (ap is_some e) in absurd (found_some gates t st.place (no_gate_of st) st.within (st.here (no_gate_of st)) n)
        where
          no_gate_of : Stands gates t → Gate
          no_gate_of st = record { table = record { 0 = 0 }; setting = s; held = None; ins = []; out = 0; output = true }

  -- what is kept is the configuration
  pub config_is : (m : Shape) (closed : List Cross) (ticks : ℕ) → g.shape ≡ m → set_of closed ≡ g.closed → length g.tables ≡ tables_of m → g.ticks ≡ ticks → config_in m closed gates ticks ≡ g
  config_is m closed ticks shape same_closed len same_ticks =
      let tables : g.tables ≡ map (setting_in gates) (range_with_len 0 (tables_of m)) = fill_by_all (setting_in gates) g.tables (tables_of m) None len (λ k h. sym (setting_is k)) in
      λ i. record { shape = sym shape i; closed = same_closed i; tables = sym tables i; ticks = sym same_ticks i }

-- the closed crosspoints are a set by their counts
pub closed_is : (g : Configuration) (closed : List Cross) → ((x : ℕ) → count_by (λ c. eqb c.0 x) closed ≡ cond (is_closed g x) 1 0) → set_of closed ≡ g.closed
closed_is g closed counts = same_set nat_cmp_total nat_cmp-IsAntisymmetric _ _ (λ q. contains_times closed q (is_closed g q) (counts q))

-- one more cycle behind those that are kept
pub cycles_more : (ds rs : List Pins) (d r : Pins) → length ds ≡ length rs → cycles_in (ds ++ d ∷ []) (rs ++ r ∷ []) ≡ cycles_in ds rs ++ record { drive = d; reading = r } ∷ []
cycles_more [] [] d r e = refl
cycles_more [] (y ∷ rs) d r e = absurd (omega (arith, e))
cycles_more (x ∷ ds) [] d r e = absurd (omega (arith, e))
cycles_more (x ∷ ds) (y ∷ rs) d r e = ap (λ l. record { drive = x; reading = y } ∷ l) (cycles_more ds rs d r (omega (arith, e)))

-- from a session to what is kept
pub has_session : (b : Bool) (s : Session) (F : Session → ℕ) (n : ℕ) → option_map F (cond b (Some s) None) ≡ Some n → (b ≡ true) × (F s ≡ n)
has_session true s F n e = (refl, (let q = e in cc))
has_session false s F n e = (cc, cc)

-- a cycle more in the run
pub run_more : {f : Faults} {g : Configuration} (cycles : List Exchange) (drive read : Pins) {gates new : List Gate} → (run : HasRun f g (drives_of cycles) (readings_of cycles) gates) → GivesCycle f g run.outputs drive read new →
    HasRun f g (drives_of (cycles ++ record { drive = drive; reading = read } ∷ [])) (readings_of (cycles ++ record { drive = drive; reading = read } ∷ [])) new
run_more {f} {g} cycles drive read run one = record {
  outputs = one.outputs;
  cycles = (rw (map-append (λ (c : Exchange). c.drive) cycles, map-append (λ (c : Exchange). c.reading) cycles) (Cycles-push (circuit_of f g) run.cycles one.cycle));
  gives = one.gives;
}

-- nothing was driven and read yet
pub as_many_none : {ds rs : List Pins} → ds ≡ [] → rs ≡ [] → length ds ≡ length rs
as_many_none d r = ap length d ∙ sym (ap length r)

pub session_begun : {g h : Configuration} {ds rs : List Pins} {n m : ℕ} → g ≡ h → ds ≡ [] → rs ≡ [] → n ≡ m →
    ◌≡◌ {A = Option Session} (Some (record { config = g; cycles = cycles_in ds rs; spare = n })) (Some (record { config = h; cycles = []; spare = m }))
session_begun e d r s = λ i. Some (record { config = e i; cycles = cycles_in (d i) (r i); spare = s i })

pub running_begun : {f : Faults} {g h : Configuration} {b : Board} {ds rs : List Pins} → IsLoaded f h b → AreOutputs h b.gates.items (at_load (circuit_of f h)) → g ≡ h → ds ≡ [] → rs ≡ [] → IsRunning f g (cycles_in ds rs) b
running_begun {f} {g} {h} {b} {ds} {rs} loaded first e d r = subst (λ k. IsRunning f k (cycles_in ds rs) b) (sym e)
    (subst (λ cs. IsRunning f h cs b) (sym (λ i. cycles_in (d i) (r i))) (record { loaded = loaded; run = record { outputs = at_load (circuit_of f h); cycles = none; gives = first } }))
