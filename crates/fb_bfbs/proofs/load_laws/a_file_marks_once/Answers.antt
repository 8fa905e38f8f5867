use Rattle.fb_bfbs.proofs.OneMarks.{marks_once}
use Rattle.fb_bfbs.proofs.load_laws.a_file_marks_once.Goals as goal

pub returns : goal.returns
returns c = marks_once
