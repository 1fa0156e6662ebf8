use Rattle.subject_core.specs.BaseSubject.{base_subject_of, is_reply}
use Rattle.luvazhimba_c.proofs.BaseBounds.{base_few}
use Rattle.luvazhimba_c.proofs.laws.a_base_fits_into_its_subject.Goals as goal

pub returns : goal.returns
returns c = λ subject.
    base_few c.removals_end_at_one_base.ensures.shortens subject (base_subject_of subject) (is_reply subject) (c.removals_end_at_one_base.ensures.ends subject)
