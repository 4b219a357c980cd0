use borrow.Author.Rules.{rules}
use Rattle.capi.specs.Version.{major_version, minor_version, patch_version}
use Rattle.capi.proofs.kieselbrot_version.Goals as goal

pub returns : goal.returns
unfolding major_version minor_version patch_version
returns c = search rules
