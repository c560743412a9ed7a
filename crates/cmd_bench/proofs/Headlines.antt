-- What a `bench` that is done has done, from its course.
use Rattle.std.proofs.Common.{◌≡◌, ◌∙◌, ℕ, ◌-◌, Bool, List, ◌++◌, length, Some, sym, ap, subst, inl, inr, append-nil, Result, Ok, Err, OnOk}
use Rattle.cmd_bench.proofs.Vocabulary.{All, range_with_len, Shape, Faults, Covers, NetlistData, plain_network, nets_in, explained-run}
use Rattle.cmd_bench.proofs.Vocabulary.{bench_draft, Outside, around, ends, IsWritten, Stop}
use Rattle.std.proofs.lemmas.List.Elements.{All-map}
use Rattle.base_io.specs.Sink.{Wrote}
use Rattle.place_route.specs.RightImages.{IsRightImage}
use Rattle.rig.specs.Rig.{Explains, cycles_of, readings_of}
use Rattle.cmd_bench.specs.{Summary.summary_text, Headline.IsBenched}
use Rattle.cmd_bench.specs.Bench.{bench_rows, bench_course, bench_summary, bench_vector, bench_vectors}
use Rattle.cmd_bench.proofs.BenchLaws.{IsOnly}

-- each vector has one bit
vectors-wide : (n width : ℕ) → width ≡ 1 → All (λ (v : List Bool). length v ≡ width) (bench_vectors n)
vectors-wide n width one =
    All-map (λ (v : List Bool). length v ≡ width) (bench_vector n) (range_with_len 0 bench_rows) (λ k d less. sym one)

module _ (tables : length (plain_network bench_draft).tables ≡ 17) (nets : nets_in (plain_network bench_draft) ≡ 18) (n : ℕ) where
  -- the numbers of the design's plain network
  pub summary-is : (draft : NetlistData) (ones loads : ℕ) → draft ≡ bench_draft → bench_summary n draft ones loads ≡ summary_text n 17 18 ones loads
  summary-is draft ones loads is =
      ap (λ (x : NetlistData). bench_summary n x ones loads) is
      ∙ (ap (λ t. summary_text n t (nets_in (plain_network bench_draft)) ones loads) tables ∙ ap (λ k. summary_text n 17 k ones loads) nets)

  module _ (only : IsOnly) (old new : Outside) where
    pub benched : (text : List ℕ) → Wrote old.sink.written new.sink.written text → bench_course n (around old) (around new) text ends → IsBenched n old new
    benched text wrote (inl h) = absurd h.1
    benched text wrote (inr (m, counts, inl h)) = absurd h.1
    benched text wrote (inr (m, counts, inr (u, attached, inl h))) = absurd h.1
    benched text wrote (inr (m, counts, inr (u, attached, inr (draft, design, inl h)))) = absurd h.1
    benched text wrote (inr (m, counts, inr (u, attached, inr (draft, design, inr (l, listed, inl h))))) = absurd h.1
    benched text wrote (inr (m, counts, inr (u, attached, inr (draft, design, inr (l, listed, inr (i, laid, inl h)))))) = absurd h.1
    benched text wrote (inr (m, counts, inr (u, attached, inr (draft, design, inr (l, listed, inr (i, laid, inr (ones, run, inl h))))))) = let line = h.1 in absurd (cc)
    benched text wrote (inr (m, counts, inr (u, attached, inr (draft, design, inr (l, listed, inr (i, laid, inr (ones, run, inr (more, is, h)))))))) =
        let the = only draft design in
        let one : length i.inputs ≡ 1 = laid.0.inputs ∙ ap (λ (x : NetlistData). length x.inputs) the in
        let line = is ∙ (ap (λ t. bench_summary n draft ones (new.rig.loads - old.rig.loads) ++ t) h.0 ∙ (append-nil _ ∙ summary-is draft ones (new.rig.loads - old.rig.loads) the)) in
        let right : (f : Faults) → Explains f new.rig → IsRightImage f i draft = λ f e.
        laid.0.right f (subst (λ (s : Shape). Covers s l.list.list f) (sym listed.shape) (listed.right.covers f e)) in
        record {
          shape = m;
          counts = counts;
          attached = attached;
          made = l;
          is_listed = listed;
          loads = run.loads;
          draft = draft;
          design = design;
          image = i;
          is_image = laid.0.image;
          image_shape = laid.0.shape ∙ listed.shape;
          one_input = one;
          two_outputs = laid.0.outputs ∙ ap (λ (x : NetlistData). length x.outputs) the;
          routed = laid.0.routed;
          config = run.config;
          drives = run.drives;
          ones = ones;
          ones_are = run.ones_are;
          written = subst (λ t. Wrote old.sink.written new.sink.written t) line wrote;
          right = right;
          rows = λ f e. right f e (bench_vectors n) (readings_of (cycles_of new.rig)) (vectors-wide n (length i.inputs) one)
              (explained-run new.rig i (bench_vectors n) run.config run.drives f e);
        }

    -- at the end of a body that did it
    pub benched-done : {U : Type 0} (result : Result U Stop) → IsWritten (bench_course n (around old) (around new)) result old.sink new.sink → OnOk result (IsBenched n old new)
    benched-done (Ok u) w = benched w.0 w.2 w.1
    benched-done (Err stop) w = tt
