use Rattle.iv_bytes.proofs.PutLemmas.{direct-sent}
use Rattle.std.specs.List.{flat_map}
use Rattle.iv_session.specs.Written.{messages_from}
use Rattle.iv_session.proofs.lemmas.lines_before_are_handed_on.Goals as goal

pub returns-clause-output : goal.returns-clause-output
returns-clause-output c = λ old new before after most_lines most n cause stopped direct.
    direct-sent before.output stopped.at.streams.output (flat_map (λ w. w.output) stopped.written) direct stopped.output

pub returns-clause-messages : goal.returns-clause-messages
returns-clause-messages c = λ old new before after most_lines most n cause stopped direct.
    direct-sent before.messages stopped.at.streams.messages (messages_from 1 stopped.written) direct stopped.messages
