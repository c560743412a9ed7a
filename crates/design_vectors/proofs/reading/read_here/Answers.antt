use Rattle.design_vectors.proofs.Vocabulary.{◌≡◌, ℕ, List, ap, subst, refl, ◌∙◌, Step, Vector, PartLine, HasRead}
use Rattle.design_vectors.proofs.StepLemmas.{read-on}
use Rattle.design_vectors.proofs.reading.read_here.Goals as goal

pub go_back-requires : goal.go_back-requires
go_back-requires c =
    let p = c.place-at.ensures in
    let limit : c.read-count.new.self.limit ≡ c.args.line.now.limit = c.read-count.ensures.read.limit ∙ ap (λ (l : PartLine). l.limit) c.begin.ensures in
    record { within = rw (limit, p.at) p.within; few = rw (p.at, p.number) p.few }

pub returns-in-Vector-clause-vector : goal.returns-in-Vector-clause-vector
returns-in-Vector-clause-vector c = λ _.
    let read = subst (λ (bytes : List ℕ). HasRead c.read-count.result.1 bytes c.read-count.result.0 c.begin.new.self c.read-count.new.self) c.unread.ensures.bytes c.read-count.ensures.read in
    let whole = subst (λ (s : Step). HasRead s c.args.feed.now c.read-count.result.0 c.begin.new.self c.read-count.new.self) c.in-Vector.is read in
    rw (← c.begin.ensures) (read-on Vector _ _ _ _ _ whole (λ e. absurd (cc)) c.skip.ensures.bytes)

pub returns-in_default : goal.returns-in_default
returns-in_default c =
    let p = c.place-at.ensures in
    let h = c.read-count.ensures.read in
    let width : c.read-count.new.self.width ≡ c.args.line.now.width = h.width ∙ ap (λ (l : PartLine). l.width) c.begin.ensures in
    let limit : c.read-count.new.self.limit ≡ c.args.line.now.limit = h.limit ∙ ap (λ (l : PartLine). l.limit) c.begin.ensures in
    record {
      vector = λ yes. absurd (cc);
      room = c.unread.ensures.room;
      kept = λ _. rw (c.go_back.ensures, p.at, p.number, width, limit) refl;
      width = rw c.go_back.ensures width;
      limit = rw c.go_back.ensures limit;
    }
