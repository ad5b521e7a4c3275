-- What bounds a daemon that does not end.
use Rattle.dl_daemon.specs.declared.limits.Limits.{Limits}

-- So many clients may come in all; so many channels may be open at once, and so many come in all.
unfoldable pub limits : Limits
limits = record { clients = 65535; open_channels = 16; channels = 65535 }
