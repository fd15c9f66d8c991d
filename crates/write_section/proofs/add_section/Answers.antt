-- The walk over the sections, then the longer draft, or the draft alone where it does not read.
use Rattle.reading.proofs.Filled.{bytes_of}
use Rattle.write_section.specs.Adding.{section_added}
use Rattle.write_section.proofs.Calls.{unread}
use Rattle.write_appended_part.proofs.Outcomes.{same_written}
use Rattle.write_last_part.proofs.Ended.{sections_ended}
use Rattle.write_section.proofs.Refusals.{section_tried}
use Rattle.write_section.proofs.add_section.Goals as goal

pub returns-in-Broken : goal.returns-in-Broken
unfolding section_added
returns-in-Broken c =
    let d = c.args.draft.now in
    let f = unread d _ c.in-Broken.ensures c.read_draft.ensures in
    record {
      answer = f.0;
      draft = f.1;
      bytes = bytes_of d (λ i. (c.slice_known-1.given i).fits);
    }

pub append_section-requires : goal.append_section-requires
append_section-requires c = sections_ended c.args.draft.now c.last_section.result c.last_section.ensures c.in_default.not-Broken

pub returns : goal.returns
returns c =
    let d = c.args.draft.now in
    let w = c.args.part.now in
    let b = bytes_of d (λ i. (c.slice_known-1.given i).fits) in
    let e = sections_ended d c.last_section.result c.last_section.ensures c.in_default.not-Broken in
    let s = section_tried d w b (bytes_of w (λ i. (c.slice_known-2-1.given i).fits)) e.0 e.1 in
    let r = same_written d s c.append_section.ensures.answer c.append_section.ensures.draft in
    record {
      answer = r.0;
      draft = r.1;
      bytes = b;
    }
