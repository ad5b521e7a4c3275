-- The fields of a known length where what follows or what is allowed depends on them: their bytes, and what they hold.
use Rattle.std.specs.Prelude.{◌≡◌, ℕ, ◌<◌, ◌^◌, List, length, FitsSigned}
use Rattle.std.specs.Int.{w8}
use Rattle.dl_user.specs.declared.fields.AppFields.{AppFields}
use Rattle.dl_user.specs.declared.fields.ContextFields.{ContextFields}
use Rattle.dl_user.specs.declared.fields.SettingFields.{SettingFields}
use Rattle.dl_user.specs.declared.fields.ServiceFields.{ServiceFields}
use Rattle.dl_user.specs.Layout.{app_front, context_front, setting_front, service_front}

-- kind 2
pub record IsApp (front : List ℕ) (app : AppFields) : Type 0 where
  pub spelled : front ≡ app_front app
  pub apid : length app.apid ≡ 4
  pub pid : app.pid < 2 ^ 32
  pub len : app.len < 2 ^ 32

-- kind 4
pub record IsContext (front : List ℕ) (context : ContextFields) : Type 0 where
  pub spelled : front ≡ context_front context
  pub apid : length context.apid ≡ 4
  pub ctid : length context.ctid ≡ 4
  pub position : context.position < 2 ^ 32
  pub level : FitsSigned w8 context.level
  pub trace : FitsSigned w8 context.trace
  pub pid : context.pid < 2 ^ 32
  pub len : context.len < 2 ^ 32

-- kind 6
pub record IsSetting (front : List ℕ) (setting : SettingFields) : Type 0 where
  pub spelled : front ≡ setting_front setting
  pub level : setting.level < 256
  pub trace : FitsSigned w8 setting.trace
  pub position : setting.position < 2 ^ 32

-- kind 7
pub record IsService (front : List ℕ) (injection : ServiceFields) : Type 0 where
  pub spelled : front ≡ service_front injection
  pub position : injection.position < 2 ^ 32
  pub service : injection.service < 2 ^ 32
  pub len : injection.len < 2 ^ 32
