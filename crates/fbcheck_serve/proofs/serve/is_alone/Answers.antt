use Rattle.std.proofs.Common.{refl, rules}
use Rattle.fbcheck_serve.proofs.ServingLemmas.{none_named, some_named}
use Rattle.fbcheck_serve.proofs.serve.is_alone.Goals as goal

pub returns-in-None-clause-alone : goal.returns-in-None-clause-alone
returns-in-None-clause-alone c empty =
    (rw c.in-None.is refl, none_named c.args.settings.now.files.items c.as_slice.result.now c.is_empty.result c.as_slice.ensures.value c.is_empty.ensures empty)

pub returns-in-None-clause-others : goal.returns-in-None-clause-others
returns-in-None-clause-others c filled alone =
    some_named c.args.settings.now.files.items c.as_slice.result.now c.is_empty.result c.as_slice.ensures.value c.is_empty.ensures filled alone.1

pub returns-in-Some-clause-alone : goal.returns-in-Some-clause-alone
returns-in-Some-clause-alone c = search rules
