-- Which configuration a core has.
use Rattle.std.specs.Prelude.{◌≡◌, ℕ, [], None, Option}
use Rattle.dl_bytes.specs.Limits.{client_limit}
use Rattle.dl_bytes.specs.declared.conf.Conf.{Conf}
use Rattle.dl_bytes.specs.declared.conf.Stored.{Stored}
use Rattle.dl_model.specs.Setting.{Setting}
use Rattle.dl_model.specs.declared.software.Software.{Software}
use Rattle.dl_model.specs.declared.software.Software.TheVariants.{Run}
use Rattle.dl_hub.specs.State.{fresh}
use Rattle.dl_registry.specs.Kept.{made}
use Rattle.dl_trace.specs.State.{Trace}
use Rattle.dl_core.specs.State.{Core}

-- what does not change in a run: of this program and this configuration, after this stored configuration, with this first
-- version, to which at most so many clients come
abbrev pub setting_for : Software → Conf → Stored → ℕ → ℕ → Setting
setting_for software conf stored first clients = record {
  ecu = conf.ecu;
  level = conf.level;
  buffer = conf.buffer;
  directory = conf.directory;
  file_size = conf.file_size;
  max_size = conf.max_size;
  injection = conf.injection;
  stored = stored;
  first = first;
  clients = clients;
  software = software;
}

-- the same of a run that ends
abbrev pub setting_of : Conf → Stored → ℕ → Setting
setting_of conf stored first = setting_for Run conf stored first client_limit

-- a core before its first event
abbrev pub begun_for : Software → Conf → Stored → ℕ → Option Trace → ℕ → Core
begun_for software conf stored first trace clients = record {
  ecu = conf.ecu;
  level = conf.level;
  injection = conf.injection;
  software = software;
  registry = made conf.level stored first;
  hub = fresh conf.ecu conf.buffer clients;
  trace = trace;
}

-- the same of a run that ends
abbrev pub begun : Conf → Stored → ℕ → Option Trace → Core
begun conf stored first trace = begun_for Run conf stored first trace client_limit

-- a setting has the directory and the sizes of trace files of a configuration
pub record HasSizes (conf : Conf) (setting : Setting) : Type 0 where
  pub directory : conf.directory ≡ setting.directory
  pub file_size : conf.file_size ≡ setting.file_size
  pub max_size : conf.max_size ≡ setting.max_size

-- the core has the setting of a run
pub record IsSetTo (setting : Setting) (core : Core) : Type 0 where
  pub ecu : core.ecu ≡ setting.ecu
  pub unit : core.hub.ecu ≡ setting.ecu
  pub buffer : core.hub.buffer ≡ setting.buffer
  pub level : core.level ≡ setting.level
  pub injection : core.injection ≡ setting.injection
  pub clients : core.hub.limit ≡ setting.clients
  pub software : core.software ≡ setting.software

-- the configuration as far as a request sees it
abbrev pub seen : Core → Setting
seen core = record {
  ecu = core.ecu;
  level = core.level;
  buffer = core.hub.buffer;
  directory = [];
  file_size = 0;
  max_size = 0;
  injection = core.injection;
  stored = record { level = None; own = [] };
  first = core.registry.first;
  clients = core.hub.limit;
  software = core.software;
}
