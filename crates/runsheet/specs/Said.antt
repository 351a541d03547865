-- What a sheet says, as its lines give it.
use Rattle.std.specs.Prelude.{List}
use Rattle.batch.specs.Items.{items}
use Rattle.fabric.specs.declared.parts.Cable.{Cable}
use Rattle.text.specs.declared.parts.Shape.{Shape}
use Rattle.text.specs.declared.parts.SwitchKind.{SwitchKind}
use Rattle.text.specs.declared.parts.Run.{Run}
use Rattle.text.specs.declared.parts.Packet.{Packet}
use Rattle.runsheet.specs.declared.sheet.Sheet.{Sheet}

pub record Said : Type 0 where
  pub shape : Shape
  pub kind : SwitchKind
  pub run : Run
  pub cables : List Cable
  pub packets : List Packet

abbrev pub said : Sheet → Said
said s = record { shape = s.shape; kind = s.kind; run = s.run; cables = items s.cables; packets = items s.packets }
