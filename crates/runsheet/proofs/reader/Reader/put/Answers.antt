use Rattle.std.proofs.Common.{ap, subst}
use Rattle.std.specs.List.{AllByRecursion}
use Rattle.batch.specs.Items.{items}
use Rattle.text.specs.Texts.{Fits}
use Rattle.runsheet.specs.Reading.{draft, entry_line, Suits}
use Rattle.runsheet.proofs.Moves.{entered, put_packet, with_packets}
use Rattle.runsheet.proofs.reader.Reader.put.Goals as goal

pub returns-in-Packet : goal.returns-in-Packet
returns-in-Packet c =
    let d = draft c.args.self.now in
    let x = c.in-Packet.packet in
    let ps = items c.push-in-Packet.new.self in
    let h = subst (λ e. AllByRecursion Fits (entry_line e)) c.in-Packet.is c.requires.suits.0 in
    let u = subst (Suits d) c.in-Packet.is c.requires.suits.1 in
    entered d _ _ _ _ c.in-Packet.is (ap (with_packets d ps x.cycle) c.go_on-self-in-Packet.ensures) (put_packet d c.requires.valid x ps c.push-in-Packet.ensures.held u h)
