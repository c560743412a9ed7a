use Rattle.rig_simulated.proofs.Vocabulary.{◌≤◌, Err, Some, length, subst, arith, most_text, high_limits, Faults}
use Rattle.base_io.specs.Whole.{IsWithin}
use Rattle.machine_faults.specs.{Text.IsFaultText, Refusals.IsRefusedAs, Refusals.GivesOrLacks, declared.kind.FaultsFault.FaultsFault}
use Rattle.rig_simulated.proofs.Naming.{no_text}
use Rattle.rig_simulated.proofs.named.faults_of_file.Goals as goal

pub read_within-requires : goal.read_within-requires
read_within-requires g c = let most = (high_limits c.args.shape.now).text.1 in omega (arith, c.most_text-most.ensures, most)

pub returns-in-Err-At-clause-refused : goal.returns-in-Err-At-clause-refused
returns-in-Err-At-clause-refused g c =
    let told = (g.S.Store.store_state c.args.store.now).contents c.args.name.now in
    let m = c.args.shape.now in
    let bytes = c.deref.result.now in
    no_text m told c.in-Ok-Some.text.items bytes c.in-Err-At.line c.in-Err-At.kind
    (subst (λ most. IsWithin most told (Some c.in-Ok-Some.text)) c.most_text-most.ensures (subst (IsWithin c.most_text-most.result told) c.in-Ok-Some.field-0-is c.in-Ok-Some.ensures.text)) c.deref.ensures.value
    (subst (IsRefusedAs m bytes) c.in-Err-At.field-0-is c.in-Err-At.ensures.refused)
    (subst (λ (e : FaultsFault). (f : Faults) → IsFaultText m bytes f → length bytes ≤ most_text m → GivesOrLacks (record { shape = m; faults = f }) (Err e)) c.in-Err-At.field-0-is c.in-Err-At.ensures.only)
