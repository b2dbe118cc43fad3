-- The header of a control packet by its fields.
use Rattle.std.{specs.Prelude.{◌≡◌, ℕ, if◌then◌else◌, IsTrue, List, [], ◌++◌, length}}
use Rattle.pim_ip.{specs.{declared.write.ControlHeader.ControlHeader, Ipv4.{is_source, header_text, router_alert}, View.{ReadsAs, written_packet}}}

-- Router Alert or no option
abbrev pub options_of : ControlHeader → List ℕ
options_of header = if header.router_alert then router_alert else []

abbrev pub text_of : ControlHeader → List ℕ
text_of header =
    header_text (options_of header) header.time_to_live header.protocol header.source.bits
    header.destination.bits header.payload_length

-- A header before a payload of the length that it gives is read as it was written, if its source may send.
abbrev pub ReadsBack : ControlHeader → Type 0
ReadsBack header =
    (payload : List ℕ) → length payload ≡ header.payload_length
    → IsTrue (is_source header.protocol header.source.bits)
    → ReadsAs (text_of header ++ payload)
    (written_packet (options_of header) header.time_to_live header.protocol header.source.bits header.destination.bits payload)
