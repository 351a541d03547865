-- The settings for which the tables are large enough.
use Rattle.std.specs.Prelude.{◌<◌, ◌≤◌}
use Rattle.bounds.specs.declared.settings.Settings.{Settings}

pub record Fits (P : Settings) : Type 0 where
  pub some : 0 < P.tickets
  pub few : P.tickets ≤ 8
  pub short : P.words ≤ 4
  pub lasting : 0 < P.epoch
  pub ending : P.epoch ≤ 4096
  pub narrow : P.seed < 65536
