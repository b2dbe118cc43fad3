-- Queries as they are put together, and the sources that they name.
use Rattle.std.{specs.Prelude.{Bool, List, false, length, ℕ, ◌/◌}}
use Rattle.pim_ip.{specs.Addr.addr}
use Rattle.igmp_wire.{specs.{Codes.value_code, declared.write.QueryHeader.QueryHeader}}
use Rattle.pim_model.{specs.{Messages.Message, Querier.{queries_of, query_interval, robustness}, State.State}}

-- a query on an interface before its sources
abbrev pub header_of : State → ℕ → ℕ → ℕ → Bool → QueryHeader
header_of s i response_tenths group suppress = record {
  max_response_code = value_code response_tenths;
  group = addr group;
  suppress = suppress;
  robustness = robustness s i;
  interval_code = value_code (query_interval s i / 1000);
}

abbrev pub general_header : State → ℕ → QueryHeader
general_header s i = header_of s i s.settings.query_response_interval 0 false

abbrev pub specific_header : State → ℕ → ℕ → Bool → QueryHeader
specific_header s i g suppress = header_of s i s.settings.last_member_query_interval g suppress

-- a query on an interface with a header's values and these sources
abbrev pub asking : ℕ → QueryHeader → List ℕ → Message
asking i header sources = Message.Query i (record {
  max_response_code = header.max_response_code;
  group = header.group.bits;
  suppress = header.suppress;
  robustness = header.robustness;
  interval_code = header.interval_code;
  sources = sources;
})

-- the queries of all these sources, in messages that a frame holds
abbrev pub all_queries : (List ℕ → Message) → List ℕ → List Message
all_queries message sources = queries_of message (length sources) sources
