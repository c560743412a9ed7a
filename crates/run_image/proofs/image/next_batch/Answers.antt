use Rattle.run_image.proofs.Vocabulary.{◌≤◌, ◌∙◌, ℕ, inl, refl, sym, subst, arith, err_from_is_err_and, together_of}
use Rattle.run_image.proofs.CycleLemmas.{kept-first, read-batch}
use Rattle.run_image.proofs.image.next_batch.Goals as goal

pub next_vector-requires-clause-current : goal.next_vector-requires-clause-current
next_vector-requires-clause-current g c = c.requires.open

pub next_vector-requires-clause-width : goal.next_vector-requires-clause-width
next_vector-requires-clause-width g c = c.requires.fits.vector ∙ sym c.requires.fits.width

pub next_vector-requires-clause-limit : goal.next_vector-requires-clause-limit
next_vector-requires-clause-limit g c = c.requires.fits.limit

pub returns-in_err-next_vector-clause-fits : goal.returns-in_err-next_vector-clause-fits
returns-in_err-next_vector-clause-fits g c =
    let p = err_from_is_err_and c.from_residual.result c.from_residual.ensures.1 in
    rw p.1 tt

pub returns-in_err-next_vector-clause-few : goal.returns-in_err-next_vector-clause-few
returns-in_err-next_vector-clause-few g c =
    let p = err_from_is_err_and c.from_residual.result c.from_residual.ensures.1 in
    rw p.1 tt

pub returns-in_err-next_vector-clause-gives : goal.returns-in_err-next_vector-clause-gives
returns-in_err-next_vector-clause-gives g c =
    let p = err_from_is_err_and c.from_residual.result c.from_residual.ensures.1 in
    rw p.1 tt

pub returns-in_err-next_vector-clause-refused : goal.returns-in_err-next_vector-clause-refused
returns-in_err-next_vector-clause-refused g c =
    let p = err_from_is_err_and c.from_residual.result c.from_residual.ensures.1 in
    rw (p.1, p.2) c.in_err-next_vector.ensures.refused

pub returns-then-not-branch-clause-fits : goal.returns-then-not-branch-clause-fits
returns-then-not-branch-clause-fits g c =
    let e = c.in_ok-next_vector.ensures in
    let f = c.requires.fits in
    record {
      shares = f.shares;
      run = f.run;
      width = e.vectors ∙ f.width;
      limit = e.limit ∙ f.limit;
      vector = e.length ∙ f.vector;
      drive = f.drive;
      reading = f.reading;
      row = f.row;
      block = e.block ∙ f.block;
      drives = f.drives;
      readings = f.readings;
    }

pub returns-then-not-branch-clause-gives : goal.returns-then-not-branch-clause-gives
returns-then-not-branch-clause-gives g c = inl (refl, rw c.if-not-branch.true at c.in_ok-next_vector.ensures.gives)

pub returns-then-not-branch-clause-refused : goal.returns-then-not-branch-clause-refused
returns-then-not-branch-clause-refused g c = tt

pub keep_drive-requires-clause-fits : goal.keep_drive-requires-clause-fits
keep_drive-requires-clause-fits g c =
    let e = c.in_ok-next_vector.ensures in
    let f = c.requires.fits in
    record {
      shares = f.shares;
      run = f.run;
      width = e.vectors ∙ f.width;
      limit = e.limit ∙ f.limit;
      vector = e.length ∙ f.vector;
      drive = f.drive;
      reading = f.reading;
      row = f.row;
      block = e.block ∙ f.block;
      drives = f.drives;
      readings = f.readings;
    }

pub keep_drive-requires-clause-room : goal.keep_drive-requires-clause-room
keep_drive-requires-clause-room g c = let all = c.requires.fits.drives in omega (arith, all)

pub read_on-requires-clause-fits : goal.read_on-requires-clause-fits
read_on-requires-clause-fits g c = c.keep_drive.ensures.fits

pub read_on-requires-clause-kept : goal.read_on-requires-clause-kept
read_on-requires-clause-kept g c =
    let k = c.keep_drive.ensures in
    let place = k.place in
    kept-first _ c.keep_drive.new.rows c.keep_drive.result c.next_vector.new.vector.items k.same (rw k.vector refl) (omega (arith, place)) k.drives

pub returns-clause-same : goal.returns-clause-same
returns-clause-same g c =
    let k = c.keep_drive.ensures.same in
    let r = c.read_on.ensures.same in
    record { image = r.image ∙ k.image; copies = r.copies ∙ k.copies; left = r.left ∙ k.left }

pub returns-clause-fits : goal.returns-clause-fits
returns-clause-fits g c = c.read_on.ensures.fits

pub returns-clause-few : goal.returns-clause-few
returns-clause-few g c = subst (λ (left : ℕ). c.read_on.result ≤ together_of left) c.keep_drive.ensures.same.left c.read_on.ensures.few

pub returns-clause-gives : goal.returns-clause-gives
returns-clause-gives g c =
    let k = c.keep_drive.ensures in
    let r = c.read_on.ensures in
    let next = rw c.if-not-branch.false at c.in_ok-next_vector.ensures.gives in
    read-batch c.read_on.result c.keep_drive.new.rows c.read_on.new.rows c.next_vector.new.vector.items c.next_vector.new.vectors c.next_vector.new.block _ _ _ next.0 next.1 k.vectors (rw k.vector refl) (r.block ∙ k.block) r.reads

pub returns-clause-refused : goal.returns-clause-refused
returns-clause-refused g c = tt
