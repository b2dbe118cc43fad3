-- What an event has drawn and sent so far.
use Rattle.std.{specs.Prelude.{List, ℕ, ◌++◌}}
use Rattle.pim_model.{specs.Messages.Message}

-- A turn: the draw of its event, and the messages that are to be sent.
pub record Taking : Type 0 where
  pub draw : ℕ
  pub messages : List Message

-- A turn after which more messages are to be sent.
abbrev pub saying : Taking → List Message → Taking
saying t messages = record t { messages = t.messages ++ messages }
