-- A session goes on.
use Rattle.std.proofs.Common.{◌≡◌, ℕ, ◌+◌, Bool, true, false, cond, Some, None, List, [], ◌∷◌, ◌++◌, length, refl, sym, ap, ◌∙◌, subst, arith, option_map}
use Rattle.rig_simulated.proofs.Vocabulary.{length_push, length-map-range_with_len, tables_of, pins_of, Outputs, Pins, Configuration}
use Rattle.rig_simulated.proofs.Vocabulary.{Session, Board, IsLoaded, AreFitting, AreOutputs, SimState, GoesOnFrom, HasGoneOn, GivesCycle}
use Rattle.machine_faults.specs.Adding.{Faulty}
use Rattle.rig_simulated.specs.{declared.sim.Sim.TheInside.Inside, Stored.setting_in, Stored.config_in, Stored.cycles_in}
use Rattle.rig_simulated.specs.Sims.{config_of_sim, cycles_of_sim, state_of_sim, IsRunning, IsSim}
use Rattle.rig_simulated.proofs.Sessions.{has_session, config_is, cycles_more, run_more}

module _ (a : Inside) (s : SimState) (view : state_of_sim a ≡ s) (n : ℕ) (width : option_map (λ (t : Session). pins_of t.config.shape) s.session ≡ Some n) where
  both : (a.running ≡ true) × (pins_of a.faults.shape ≡ n)
  both = has_session a.running (record { config = config_of_sim a; cycles = cycles_of_sim a; spare = a.room }) (λ (t : Session). pins_of t.config.shape) n
      (ap (λ (v : SimState). option_map (λ (t : Session). pins_of t.config.shape) v.session) view ∙ width)

  pub is_running : a.running ≡ true
  is_running = both.0

  pub width_is : pins_of a.faults.shape ≡ n
  width_is = both.1

  pub pins_count : IsSim a → n ≡ length a.board.pins.items
  pins_count is = sym width_is ∙ sym (is.running is_running).loaded.wired.count

  pub fitting : IsSim a → AreFitting a.faults.shape a.board
  fitting is = (is.running is_running).loaded.fitting

-- the tables of a board that goes on are those that were kept
pub config_stays : (a : Inside) (b : Board) → IsLoaded a.faults.faults (config_of_sim a) b → config_in a.faults.shape a.closed.items b.gates.items a.ticks ≡ config_of_sim a
config_stays a b loaded = config_is {g = config_of_sim a} b.gates.items loaded.wired.gates_are a.faults.shape a.closed.items a.ticks refl refl (length-map-range_with_len (setting_in a.board.gates.items) 0 (tables_of a.faults.shape)) refl

-- a session that stays
pub gone_on : (b : Bool) (machine : Faulty) (drive read : Pins) (s t : Session) → b ≡ true → GoesOnFrom machine.faults drive read s t → HasGoneOn drive read (record { machine = machine; session = cond b (Some s) None }) (record { machine = machine; session = cond b (Some t) None })
gone_on true machine drive read s t e on = record { session = refl; goes_on = on }
gone_on false machine drive read s t e on = cc

module _ (a : Inside) (b : Board) (drive read : Pins) (ds rs : List Pins) (is : IsSim a) (running : a.running ≡ true)
    (loaded_on : (g : Configuration) (before : Outputs) → g.shape ≡ a.faults.shape → g.ticks ≡ a.ticks → IsLoaded a.faults.faults g a.board → AreOutputs g a.board.gates.items before → IsLoaded a.faults.faults g b)
    (cycled : (g : Configuration) (before : Outputs) → g.shape ≡ a.faults.shape → g.ticks ≡ a.ticks → IsLoaded a.faults.faults g a.board → AreOutputs g a.board.gates.items before → GivesCycle a.faults.faults g before drive read b.gates.items)
    (driven : ds ≡ a.drives.items ++ drive ∷ []) (given : rs ≡ a.readings.items ++ read ∷ []) where
  was : IsRunning a.faults.faults (config_of_sim a) (cycles_of_sim a) a.board
  was = is.running running

  loaded : IsLoaded a.faults.faults (config_of_sim a) b
  loaded = loaded_on (config_of_sim a) was.run.outputs refl refl was.loaded was.run.gives

  pub same_config : config_in a.faults.shape a.closed.items b.gates.items a.ticks ≡ config_of_sim a
  same_config = config_stays a b loaded

  pub more_cycles : cycles_in ds rs ≡ cycles_of_sim a ++ record { drive = drive; reading = read } ∷ []
  more_cycles = (λ i. cycles_in (driven i) (given i)) ∙ cycles_more a.drives.items a.readings.items drive read is.as_many

  pub goes_on : IsRunning a.faults.faults (config_in a.faults.shape a.closed.items b.gates.items a.ticks) (cycles_in ds rs) b
  goes_on = subst (λ g. IsRunning a.faults.faults g (cycles_in ds rs) b) (sym same_config)
      (subst (λ cs. IsRunning a.faults.faults (config_of_sim a) cs b) (sym more_cycles)
      (record { loaded = loaded; run = run_more (cycles_of_sim a) drive read was.run (cycled (config_of_sim a) was.run.outputs refl refl was.loaded was.run.gives) }))

  pub as_many : length ds ≡ length rs
  as_many = ap length driven ∙ length_push a.drives.items drive ∙ ap (λ n. n + 1) is.as_many ∙ sym (ap length given ∙ length_push a.readings.items read)

  -- the state once a cycle more was made
  pub went_on : (s : SimState) → state_of_sim a ≡ s →
      HasGoneOn drive read s (record { machine = a.faults; session = cond a.running (Some (record { config = config_in a.faults.shape a.closed.items b.gates.items a.ticks; cycles = cycles_in ds rs; spare = a.room })) None })
  went_on s view =
      let run = goes_on.run in
      let goes : GoesOnFrom a.faults.faults drive read (record { config = config_of_sim a; cycles = cycles_of_sim a; spare = a.room }) (record { config = config_in a.faults.shape a.closed.items b.gates.items a.ticks; cycles = cycles_in ds rs; spare = a.room }) =
      record { config = same_config; cycles = more_cycles; spare = omega arith; run = record { outputs = run.outputs; cycles = run.cycles } } in
      subst (λ (t : SimState). HasGoneOn drive read t (record { machine = a.faults; session = cond a.running (Some (record { config = config_in a.faults.shape a.closed.items b.gates.items a.ticks; cycles = cycles_in ds rs; spare = a.room })) None })) view
      (gone_on a.running a.faults drive read _ _ running goes)
