-- The walk over the sections, then the last one.
use mathlib.Core.Path.{sym}
use Rattle.reading.proofs.Filled.{bytes_of}
use Rattle.write_section.specs.Adding.{subsection_added}
use Rattle.write_appended_part.proofs.Outcomes.{same_written}
use Rattle.write_section.proofs.Calls.{unread, told_at, refused_kept}
use Rattle.write_subsection.proofs.Adding.{none_last}
use Rattle.write_subsection.proofs.add_subsection.Goals as goal

pub returns-in-Broken : goal.returns-in-Broken
unfolding subsection_added
returns-in-Broken c =
    let d = c.args.draft.now in
    let f = unread d _ c.in-Broken.ensures c.read_draft.ensures in
    record {
      answer = f.0;
      draft = f.1;
      bytes = bytes_of d (λ i. (c.slice_known-1.given i).fits);
    }

pub returns-in-Empty : goal.returns-in-Empty
returns-in-Empty c =
    let d = c.args.draft.now in
    let b = bytes_of d (λ i. (c.slice_known-1.given i).fits) in
    let w = c.in-Empty.ensures in
    let r = same_written d (none_last d c.args.part.now c.args.id b w.0 w.1 c.requires) (told_at d c.at.ensures c.own_fault_or.ensures) (sym (refused_kept d 25 8)) in
    record {
      answer = r.0;
      draft = r.1;
      bytes = b;
    }

pub returns-in-At : goal.returns-in-At
returns-in-At c =
    let a = c.add_to_section.ensures in
    record {
      answer = a.answer;
      draft = a.draft;
      bytes = bytes_of c.args.draft.now (λ i. (c.slice_known-1.given i).fits);
    }
