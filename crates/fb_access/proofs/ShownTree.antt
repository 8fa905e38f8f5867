-- The sample unfolds into its tree.
use Rattle.fb_rules.proofs.Shown.{computing, shown}
use Rattle.fb_access.specs.Examples.{SampleUnfolds}

pub sample_unfolds : SampleUnfolds
unfolding computing
sample_unfolds = search shown
