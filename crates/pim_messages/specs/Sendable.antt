-- The messages of pim_messages as those of the specification.
use Rattle.std.{specs.{Option.option_map_or, Prelude.{List, None, Option, Some, length, map, ◌+◌, ◌^◌, ◌<◌, ◌≤◌}}}
use Rattle.pim_ip.{specs.declared.addr.Addr.Addr}
use Rattle.pim_types.{specs.declared.config.IfaceId.IfaceId}
use Rattle.igmp_wire.{specs.Written.query_with}
use Rattle.pim_model.{specs.Messages.Message as ModelMessage}
use Rattle.pim_messages.{specs.declared.{outbox.TheConstants.{MOST_ENTRIES, MOST_SOURCES}, message.{Assert.Assert, JoinPrune.JoinPrune, Message.Message, Query.Query}}}

-- what a message says
abbrev pub message_of : Message → ModelMessage
message_of (Message.Hello iface) = ModelMessage.Hello iface.number
message_of (Message.JoinPrune m) =
    ModelMessage.JoinPrune m.upstream.iface.number m.upstream.address.bits m.group.bits m.joins m.prunes
message_of (Message.Assert m) =
    ModelMessage.Assert m.iface.number m.group.bits (option_map_or (λ (a : Addr). a.bits) m.source 0) m.metric
message_of (Message.Query m) = ModelMessage.Query m.iface.number (query_with m.header m.sources)
message_of (Message.RegisterStop m) = ModelMessage.RegisterStop m.from.bits m.to.bits m.name.group.bits m.name.source.bits
message_of (Message.NullRegister m) = ModelMessage.NullRegister m.from.bits m.to.bits m.name.source.bits m.name.group.bits

abbrev pub messages_of : List Message → List ModelMessage
messages_of messages = map message_of messages

-- what fits a frame, and the fields of its message
pub record JoinPruneFits (m : JoinPrune) : Type 0 where
  pub entries : length m.joins + length m.prunes ≤ MOST_ENTRIES

pub record QueryFits (m : Query) : Type 0 where
  pub robustness : m.header.robustness < 8
  pub sources : length m.sources ≤ MOST_SOURCES

pub record AssertFits (m : Assert) : Type 0 where
  pub preference : m.metric.preference < 2 ^ 31

abbrev pub IsSendable : Message → Type 0
IsSendable (Message.JoinPrune m) = JoinPruneFits m
IsSendable (Message.Assert m) = AssertFits m
IsSendable (Message.Query m) = QueryFits m
IsSendable (Message.Hello iface) = Unit {0}
IsSendable (Message.RegisterStop m) = Unit {0}
IsSendable (Message.NullRegister m) = Unit {0}

-- the interface whose owed Hello goes before the message
abbrev pub announced_on : Message → Option IfaceId
announced_on (Message.JoinPrune m) = Some m.upstream.iface
announced_on (Message.Assert m) = Some m.iface
announced_on (Message.Hello iface) = None
announced_on (Message.Query m) = None
announced_on (Message.RegisterStop m) = None
announced_on (Message.NullRegister m) = None
